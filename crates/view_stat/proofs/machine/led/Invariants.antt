use Rattle.std.proofs.Common.{◌≡◌, ◌+◌, ◌-◌}
use Rattle.core_machine.specs.step_play.Rules.StepRules.{step_rules}
use Rattle.view_stat.specs.Watched.{led}
use Rattle.view_stat.proofs.machine.led.Given as goal

abbrev pub invariant-loop-level : goal.invariant-loop-level
invariant-loop-level l =
    led step_rules l.levels l.cpu.0 0 l.player
    ≡ led step_rules (l.levels - l.level) l.cpu.0 l.level l.player + l.level
