use Rattle.std.proofs.Common.{◌≡◌, ◌+◌, ◌≤◌, ◌++◌, drop}
use Rattle.std.specs.Prelude.{sum, flat_map}
use Rattle.tm_base.specs.declared.limits.TheConstants.{MOST_CPUS_V2}
use Rattle.tree_plan.specs.Store.{run_lengths, listed}
use Rattle.tree_plan.proofs.cutting.cut_level.Given as goal

abbrev pub invariant-loop-row : goal.invariant-loop-row
invariant-loop-row l = record {
  few : l.place + sum (drop l.row-index l.rows) ≤ MOST_CPUS_V2;
  rest : l.groups.items ++ listed l.level l.place (flat_map run_lengths (drop l.row-index l.rows)) ≡ l.initial.groups.items ++ listed l.level 0 (flat_map run_lengths l.rows);
}
