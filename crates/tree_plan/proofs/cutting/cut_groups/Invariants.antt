use Rattle.std.proofs.Common.{◌≡◌, ◌-◌, ◌++◌}
use Rattle.tree_plan.specs.Store.{listed_levels}
use Rattle.tree_plan.proofs.Building.{RowsWithin, lengths_from}
use Rattle.tree_plan.proofs.cutting.cut_groups.Given as goal

abbrev pub invariant-loop-level : goal.invariant-loop-level
invariant-loop-level l = record {
  within : RowsWithin l.rows.items;
  rest : l.groups.items ++ listed_levels l.level (lengths_from l.inner (l.most - l.level) l.level l.rows.items) ≡ listed_levels 0 (lengths_from l.inner l.most 0 l.initial.rows.items);
}
