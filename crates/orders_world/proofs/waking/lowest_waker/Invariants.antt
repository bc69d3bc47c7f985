use Rattle.std.proofs.Common.{ℕ, ◌<◌}
use Rattle.orders_world.specs.Seeking.{KeepsBy}
use Rattle.orders_world.proofs.waking.lowest_waker.Given as goal

abbrev pub invariant-loop-cpu : goal.invariant-loop-cpu
invariant-loop-cpu l = (d : ℕ) → d < l.cpu → (at : ℕ) → KeepsBy l.world l.time d at → ⊥
