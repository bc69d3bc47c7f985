use Rattle.std.proofs.Common.{ℕ, ◌≡◌, ◌<◌, false}
use Rattle.std.specs.Prelude.{◌&&◌, find, option_map}
use Rattle.std.specs.List.{range_with_len}
use Rattle.tree_plan.specs.Paths.{is_placed_in}
use Rattle.play_rules.specs.State.{cpu_at, is_active}
use Rattle.step_play.specs.Rules.Seen.{state_of}
use Rattle.core_machine.proofs.readings.machine.first_to_control.Given as goal

abbrev pub invariant-loop-cpu : goal.invariant-loop-cpu
invariant-loop-cpu g l = record {
  idle : (d : ℕ) → d < l.cpu →
      (is_placed_in l.core.tree d && is_active (state_of l.core) d) ≡ false;
  lowest : option_map (λ d. d.0) l.up
      ≡ find (λ d. is_placed_in l.core.tree d && (cpu_at (state_of l.core) d).online)
      (range_with_len 0 l.cpu);
}
