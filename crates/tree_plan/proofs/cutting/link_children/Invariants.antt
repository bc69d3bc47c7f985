use Rattle.std.proofs.Common.{◌≡◌, ◌++◌, map, drop}
use Rattle.tree_plan.specs.Store.{links_from}
use Rattle.tree_plan.proofs.cutting.link_children.Given as goal

abbrev pub invariant-loop-number : goal.invariant-loop-number
invariant-loop-number l = l.links.items ++ links_from l.number (map (λ g. g.children) (drop l.number l.groups)) ≡ links_from 0 (map (λ g. g.children) l.groups)
