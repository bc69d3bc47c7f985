use Rattle.std.proofs.Common.{ℕ, ◌≡◌, ◌<◌, false}
use Rattle.play_rules.specs.Covers.{wakes_by}
use Rattle.step_play.specs.Rules.Seen.{state_of}
use Rattle.core_machine.proofs.answers.above.waker_by.Given as goal

abbrev pub invariant-loop-cpu : goal.invariant-loop-cpu
invariant-loop-cpu g l = (d : ℕ) → d < l.cpu → wakes_by (state_of l.core) l.time d ≡ false
