use Rattle.std.proofs.Common.{ℕ, ◌≡◌, ◌≢◌, ◌<◌, false}
use Rattle.core_world.specs.World.{cpu_of}
use Rattle.step_play.specs.Rules.Alone.{goes_on}
use Rattle.core_machine.proofs.walks.alone.is_alone.Given as goal

abbrev pub invariant-loop-other : goal.invariant-loop-other
invariant-loop-other g l =
    (d : ℕ) → d < l.other → d ≢ l.cpu.0 → goes_on (cpu_of l.core d).walk ≡ false
