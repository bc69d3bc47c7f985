use Rattle.std.proofs.Common.{sym, ◌∙◌}
use Rattle.walk_rows.proofs.Driving.{can_wake, wake_driven}
use Rattle.walk_rows.proofs.by_steps.rouse.Goals as goal

pub wake_step-requires : goal.wake_step-requires
wake_step-requires g c =
    let part = c.args.part.now in
    can_wake part.box.cpu part c.requires
    (c.is_ready.ensures.walkless c.if-not-is_ready.false)
    (c.is_ready.ensures.online c.if-not-is_ready.false)
    (c.may_begin.ensures c.if-not-may_begin.false)
    (sym c.is_idle.ensures ∙ c.if-not-is_idle.false)

pub returns : goal.returns
returns g c = wake_driven c.args.part.now c.wake_step.new.part c.wake_step.ensures
