use Rattle.std.proofs.lemmas.Result.{on_ok_weaker}
use Rattle.core_machine.specs.step_play.Rules.StepRules.{step_rules}
use Rattle.view_stat.specs.Stats.{is_due}
use Rattle.view_stat.proofs.Lifts.{may_arm}
use Rattle.view_stat.proofs.machine.WatchingPlayMachine.arm.Goals as goal

pub returns-clause-fit : goal.returns-clause-fit
returns-clause-fit c =
    on_ok_weaker c.arm.result
    (λ stays ph may fit. stays ph (may_arm step_rules is_due _ _ ph may) fit) c.arm.ensures.fit
