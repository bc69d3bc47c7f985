use Rattle.std.proofs.Common.{ℕ, ◌≡◌, ◌<◌, false}
use Rattle.std.specs.Prelude.{min}
use Rattle.std.specs.List.{fold, range_with_len}
use Rattle.tm_base.specs.declared.names.TheConstants.{NEVER}
use Rattle.play_rules.specs.State.{cpu_at, is_active}
use Rattle.step_play.specs.Rules.Seen.{state_of}
use Rattle.core_machine.proofs.readings.machine.next_interrupt.Given as goal

abbrev pub invariant-loop-cpu : goal.invariant-loop-cpu
invariant-loop-cpu g l = record {
  idle : (d : ℕ) → d < l.cpu → is_active (state_of l.core) d ≡ false;
  least : l.least ≡ fold (λ m c. min m (cpu_at (state_of l.core) c).wakeup) NEVER
      (range_with_len 0 l.cpu);
}
