use Rattle.std.proofs.Common.{◌≡◌, ◌++◌}
use Rattle.tree_plan.specs.Store.{links_to}
use Rattle.tree_plan.proofs.cutting.link_to.Given as goal

abbrev pub invariant-loop-bit : goal.invariant-loop-bit
invariant-loop-bit l = l.links.items ≡ l.initial.links.items ++ links_to l.parent.0 l.bit
