use Rattle.std.proofs.Common.{◌≡◌, ◌-◌}
use Rattle.core_machine.specs.step_play.Rules.StepRules.{step_rules}
use Rattle.view_stat.specs.Stats.{is_due}
use Rattle.view_stat.specs.Watched.{all_reasons}
use Rattle.view_stat.proofs.foreseeing.foresee_all.Given as goal

abbrev pub invariant-loop-cpu : goal.invariant-loop-cpu
invariant-loop-cpu l =
    all_reasons step_rules is_due (step_rules.cpus l.player - l.cpu) l.cpu l.player l.reasons.items
    ≡ all_reasons step_rules is_due (step_rules.cpus l.player) 0 l.player l.fn.reasons.items
