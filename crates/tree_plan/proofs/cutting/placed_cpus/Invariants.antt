use Rattle.std.proofs.Common.{◌≡◌}
use Rattle.tree_plan.specs.Shape.{placed_from}
use Rattle.tree_plan.specs.Store.{cpu_ids}
use Rattle.tree_plan.proofs.cutting.placed_cpus.Given as goal

abbrev pub invariant-loop-cpu : goal.invariant-loop-cpu
invariant-loop-cpu l = l.placed.items ≡ cpu_ids (placed_from l.isolated 0 l.cpu)
