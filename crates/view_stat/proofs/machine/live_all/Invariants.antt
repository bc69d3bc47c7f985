use Rattle.std.proofs.Common.{◌≡◌, ◌-◌}
use Rattle.core_machine.specs.step_play.Rules.StepRules.{step_rules}
use Rattle.view_stat.specs.Watched.{all_lived}
use Rattle.view_stat.proofs.machine.live_all.Given as goal

abbrev pub invariant-loop-cpu : goal.invariant-loop-cpu
invariant-loop-cpu l =
    all_lived step_rules (step_rules.cpus l.player - l.cpu) l.cpu l.player l.jiffies l.cpus.items
    ≡ all_lived step_rules (step_rules.cpus l.player) 0 l.player l.jiffies l.fn.cpus.items
