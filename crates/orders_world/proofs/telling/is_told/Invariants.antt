use Rattle.std.proofs.Common.{ℕ, ◌<◌}
use Rattle.orders_world.specs.Seeking.{GoesThrough}
use Rattle.orders_world.proofs.telling.is_told.Given as goal

abbrev pub invariant-loop-below : goal.invariant-loop-below
invariant-loop-below l = (k : ℕ) → k < l.below → GoesThrough l.world l.cpu.0 l.wheel k
