use Rattle.std.proofs.Common.{◌≡◌, ◌-◌, length}
use Rattle.tree_plan.specs.Shape.{placed_from}
use Rattle.tree_plan.proofs.cutting.placed_among.Given as goal

abbrev pub invariant-loop-cpu : goal.invariant-loop-cpu
invariant-loop-cpu l = l.placed ≡ length (placed_from l.isolated l.first (l.cpu - l.first))
