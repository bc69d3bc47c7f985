use Rattle.std.proofs.Common.{◌∙◌, ◌∷◌, ap, arith, refl, subst, sym}
use Rattle.wheel_core.specs.PlainBase.{OneFewer}
use Rattle.cpu_bases.specs.CpuBases.{base_of}
use Rattle.core_world.specs.World.{World, cpu_of}
use Rattle.step_play.specs.Rules.StepRules.{items_due}
use Rattle.play_rules.specs.Machines.{Same, SameOnline}
use Rattle.step_play.specs.Rules.StepRules.{step_rules}
use Rattle.core_machine.specs.Draining.Turns.{Drains}
use Rattle.core_machine.proofs.Draining.Sames.{online_self, same_self}
use Rattle.core_machine.proofs.Draining.Turns.{hands_drains, hands_due, hands_enabled, hands_fewer}
use Rattle.core_machine.proofs.Draining.Turns.{hands_narrow, hands_online, hands_same, none_due}
use Rattle.core_machine.proofs.timers.draining.hand_next.Goals as goal

pub returns-in_default-clause-due : goal.returns-in_default-clause-due
returns-in_default-clause-due g c =
    none_due c.law_step.ensures c.args.core.now c.args.home.0 c.args.class c.args.runner.0
    c.requires.drains c.tree.ensures.lawful (sym c.in_default.ensures)

pub returns-in_default-clause-same : goal.returns-in_default-clause-same
returns-in_default-clause-same g c = same_self c.args.core.now c.args.core.now refl

pub returns-in_default-clause-online : goal.returns-in_default-clause-online
returns-in_default-clause-online g c = online_self c.args.core.now c.args.core.now refl

pub overflow_cast-item : goal.overflow_cast-item
overflow_cast-item g c =
    let low =
    hands_narrow c.law_step.ensures c.args.core.now c.args.home.0 c.args.class c.args.runner.0
    c.requires.drains c.tree.ensures.lawful c.in-Some.item (sym c.in-Some.ensures) in
    omega (arith, low)

pub hand-requires : goal.hand-requires
hand-requires g c =
    hands_enabled c.law_step.ensures c.args.core.now c.args.home.0 c.args.class c.args.runner.0
    c.requires.drains c.tree.ensures.lawful _ (sym c.in-Some.ensures)

pub returns-in_err-hand-clause-same : goal.returns-in_err-hand-clause-same
returns-in_err-hand-clause-same g c =
    same_self c.args.core.now c.hand.new.self c.in_err-hand.ensures.err

pub returns-in_err-hand-clause-online : goal.returns-in_err-hand-clause-online
returns-in_err-hand-clause-online g c =
    online_self c.args.core.now c.hand.new.self c.in_err-hand.ensures.err

pub returns-clause-state : goal.returns-clause-state
returns-clause-state g c = c.in_ok-hand.ensures.ok

pub returns-clause-due : goal.returns-clause-due
returns-clause-due g c =
    hands_due c.law_step.ensures c.args.core.now c.args.home.0 c.args.class c.args.runner.0
    c.requires.drains c.tree.ensures.lawful _ (sym c.in-Some.ensures)
    ∙ ap (λ w. c.in-Some.item ∷ items_due w c.args.home.0 c.args.class)
    (sym c.in_ok-hand.ensures.ok)

pub returns-clause-fewer : goal.returns-clause-fewer
returns-clause-fewer g c =
    subst (λ (w : World).
    OneFewer (base_of c.args.class (cpu_of c.args.core.now c.args.home.0).bases)
    (base_of c.args.class (cpu_of w c.args.home.0).bases)) (sym c.in_ok-hand.ensures.ok)
    (hands_fewer c.law_step.ensures c.args.core.now c.args.home.0 c.args.class c.args.runner.0
    c.requires.drains c.tree.ensures.lawful _ (sym c.in-Some.ensures))

pub returns-clause-same : goal.returns-clause-same
returns-clause-same g c =
    subst (Same step_rules c.args.core.now) (sym c.in_ok-hand.ensures.ok)
    (hands_same c.law_step.ensures c.args.core.now c.args.home.0 c.args.class c.args.runner.0
    c.requires.drains c.tree.ensures.lawful _ (sym c.in-Some.ensures))

pub returns-clause-online : goal.returns-clause-online
returns-clause-online g c =
    subst (SameOnline step_rules c.args.core.now) (sym c.in_ok-hand.ensures.ok)
    (hands_online c.law_step.ensures c.args.core.now c.args.home.0 c.args.class c.args.runner.0
    c.requires.drains c.tree.ensures.lawful _ (sym c.in-Some.ensures))

pub returns-clause-drains : goal.returns-clause-drains
returns-clause-drains g c =
    subst (λ w. Drains w c.args.home.0 c.args.class c.args.runner.0) (sym c.in_ok-hand.ensures.ok)
    (hands_drains c.law_step.ensures c.args.core.now c.args.home.0 c.args.class c.args.runner.0
    c.requires.drains c.tree.ensures.lawful _ (sym c.in-Some.ensures))
