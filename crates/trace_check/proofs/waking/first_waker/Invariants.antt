use Rattle.std.proofs.Common.{ℕ, ◌<◌}
use Rattle.trace_check.specs.Told.{WakesIn}
use Rattle.trace_check.proofs.waking.first_waker.Given as goal

abbrev pub invariant-loop-cpu : goal.invariant-loop-cpu
invariant-loop-cpu g l = (d : ℕ) → d < l.cpu → WakesIn l.core l.time d → ⊥
