use Rattle.std.proofs.Common.{ℕ, ◌≡◌, ◌<◌, false}
use Rattle.std.specs.Prelude.{◌&&◌, ◌==◌, not}
use Rattle.tree_plan.specs.Paths.{is_placed_in}
use Rattle.play_rules.specs.State.{cpu_at}
use Rattle.step_play.specs.Rules.Seen.{state_of}
use Rattle.core_machine.proofs.readings.machine.successor.Given as goal

abbrev pub invariant-loop-other : goal.invariant-loop-other
invariant-loop-other g l =
    (d : ℕ) → d < l.other → (not (d == l.cpu.0)
    && (is_placed_in l.core.tree d && (cpu_at (state_of l.core) d).online)) ≡ false
