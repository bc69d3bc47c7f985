use Rattle.std.proofs.Common.{◌≡◌, Some}
use Rattle.tree_plan.specs.Paths.{group_at_of}
use Rattle.tree_plan.proofs.hierarchy.Tree.group_at.Given as goal

abbrev pub invariant-loop-below : goal.invariant-loop-below
invariant-loop-below l = group_at_of l.self l.fn.c.0 l._below ≡ Some l.at.0
