use Rattle.std.proofs.Common.{◌+◌, ap, subst, sym, ◌∙◌}
use Rattle.core_machine.specs.step_play.Rules.StepRules.{step_rules}
use Rattle.core_world.specs.World.{World}
use Rattle.hotplug.specs.Afterwards.{SomeMoved, StillQueued}
use Rattle.hotplug.specs.Frames.{MayMoveAll}
use Rattle.hotplug.proofs.Heirs.{empty_is}
use Rattle.hotplug.proofs.Moving.{moves_enabled, moves_fewer, moves_left, moves_on, moves_over}
use Rattle.hotplug.proofs.Over.{at_err, over_none}
use Rattle.core_world.specs.declared.step.Step.TheVariants as steps
use Rattle.hotplug.proofs.Runs.{by_step}
use Rattle.hotplug.proofs.dead.move_next.Goals as goal

pub returns-in_default-clause-none : goal.returns-in_default-clause-none
returns-in_default-clause-none g c = λ same.
    empty_is c.args.core.now c.args.from.0 c.requires.low c.in_default.ensures

pub move_timer-requires : goal.move_timer-requires
move_timer-requires g c =
    moves_enabled c.args.core.now c.args.from.0 c.args.to.0 c.tree.ensures.lawful c.requires
    c.in-Some.timer c.in-Some.ensures

pub returns-clause-may : goal.returns-clause-may
returns-clause-may g c =
    subst (λ (w : World). MayMoveAll w c.args.from.0 c.args.to.0)
    (sym c.in_ok-move_timer.ensures.ok)
    (moves_on c.args.core.now c.args.from.0 c.args.to.0 c.tree.ensures.lawful c.requires
    c.in-Some.timer c.in-Some.ensures)

pub returns-clause-fewer : goal.returns-clause-fewer
returns-clause-fewer g c = λ same.
    ap (λ (w : World). step_rules.count_queued w c.args.from.0 + 1) c.in_ok-move_timer.ensures.ok
    ∙ moves_fewer c.args.core.now c.args.from.0 c.args.to.0 c.tree.ensures.lawful c.requires
    c.in-Some.timer c.in-Some.ensures

pub returns-clause-run : goal.returns-clause-run
returns-clause-run g c =
    by_step (steps.Move c.args.from c.args.to c.in-Some.timer) c.args.core.now
    c.move_timer.new.self
    (moves_enabled c.args.core.now c.args.from.0 c.args.to.0 c.tree.ensures.lawful c.requires
    c.in-Some.timer c.in-Some.ensures)
    c.in_ok-move_timer.ensures.ok

pub returns-in_default-clause-over : goal.returns-in_default-clause-over
returns-in_default-clause-over g c =
    over_none c.args.core.now c.args.from.0 c.args.to.0

pub returns-in_err-move_timer-clause-over : goal.returns-in_err-move_timer-clause-over
returns-in_err-move_timer-clause-over g c =
    subst (λ (w : World). SomeMoved c.args.core.now c.args.from.0 c.args.to.0 w)
    (sym c.in_err-move_timer.ensures.err)
    (over_none c.args.core.now c.args.from.0 c.args.to.0)

pub returns-in_err-move_timer-clause-left : goal.returns-in_err-move_timer-clause-left
returns-in_err-move_timer-clause-left g c =
    at_err c.from_residual.result
    (subst (λ (w : World). StillQueued w c.args.from.0) (sym c.in_err-move_timer.ensures.err)
    (moves_left c.args.core.now c.args.from.0 c.args.to.0 c.tree.ensures.lawful c.requires
    c.in-Some.timer c.in-Some.ensures))

pub returns-clause-over : goal.returns-clause-over
returns-clause-over g c =
    subst (λ (w : World). SomeMoved c.args.core.now c.args.from.0 c.args.to.0 w)
    (sym c.in_ok-move_timer.ensures.ok)
    (moves_over c.args.core.now c.args.from.0 c.args.to.0 c.tree.ensures.lawful c.requires
    c.in-Some.timer c.in-Some.ensures)
