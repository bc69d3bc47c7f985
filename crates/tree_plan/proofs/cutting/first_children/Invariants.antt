use Rattle.std.proofs.Common.{◌≡◌, ◌*◌, ◌≤◌, ◌++◌, map, drop}
use Rattle.tree_plan.specs.Store.{firsts_from}
use Rattle.tree_plan.proofs.cutting.first_children.Given as goal

abbrev pub invariant-loop-group : goal.invariant-loop-group
invariant-loop-group l = record {
  few : l.next ≤ 255 * l.group-index;
  rest : l.firsts.items ++ firsts_from l.next (map (λ g. g.children) (drop l.group-index l.groups)) ≡ firsts_from 0 (map (λ g. g.children) l.groups);
}
