use Rattle.std.proofs.Common.{◌≡◌, ◌++◌, take, drop, map}
use Rattle.tree_plan.specs.Store.{groups_for}
use Rattle.tree_plan.proofs.cutting.climb.Given as goal

abbrev pub invariant-loop-row : goal.invariant-loop-row
invariant-loop-row l = l.row-items ≡ map groups_for (take l.row-index l.initial.row-items) ++ drop l.row-index l.initial.row-items
