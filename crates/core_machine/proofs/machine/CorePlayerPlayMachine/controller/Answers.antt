use Rattle.std.proofs.Common.{ap, length, subst, true, ◌<◌, ◌∙◌, ◌≡◌}
use Rattle.std.specs.Prelude.{IfSome}
use Rattle.core_world.specs.World.{World}
use Rattle.step_play.specs.Rules.StepRules.{step_rules}
use Rattle.core_machine.proofs.machine.CorePlayerPlayMachine.controller.Goals as goal

pub returns-clause-controller : goal.returns-clause-controller
returns-clause-controller g c =
    c.controller.ensures.controller ∙ ap step_rules.controller c.self.view_is

pub returns-clause-in_range : goal.returns-clause-in_range
returns-clause-in_range g c =
    subst (λ (w : World). IfSome c.controller.result (λ d. d.0 < length w.cpus)) c.self.view_is
    c.controller.ensures.in_range

pub returns-clause-online : goal.returns-clause-online
returns-clause-online g c =
    subst (λ (w : World). IfSome c.controller.result (λ d. step_rules.is_online w d.0 ≡ true))
    c.self.view_is c.controller.ensures.online
