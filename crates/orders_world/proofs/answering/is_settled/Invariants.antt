use Rattle.std.proofs.Common.{ℕ, ◌<◌}
use Rattle.orders_world.specs.Seeking.{RestsAt}
use Rattle.orders_world.proofs.answering.is_settled.Given as goal

abbrev pub invariant-loop-cpu : goal.invariant-loop-cpu
invariant-loop-cpu l = (d : ℕ) → d < l.cpu → RestsAt l.world d
