use Rattle.std.proofs.Common.{◌≡◌, ◌+◌, ◌<◌, sym, ap, ◌∙◌, subst}
use Rattle.core_world.specs.Enabled.{first_event}
use Rattle.core_world.specs.World.{World}
use Rattle.walk_rows.proofs.Driving.{can_idle, idle_driven}
use Rattle.walk_rows.proofs.by_steps.rest.Goals as goal

pub idle_step-requires : goal.idle_step-requires
idle_step-requires g c =
    let part = c.args.part.now in
    let clock : c.args.now ≡ part.box.opening.clock =
    c.requires.now ∙ sym (ap (λ (w : World). w.clock) c.law.ensures.opening) in
    can_idle part.box.cpu part c.requires.driven
    (c.is_ready.ensures.walkless c.if-not-is_ready.false)
    (c.is_ready.ensures.online c.if-not-is_ready.false)
    (c.may_begin.ensures c.if-not-may_begin.false)
    (sym c.is_idle.ensures ∙ c.if-is_idle.false)
    (subst (λ n. n + 1 < first_event part.box.own.bases) clock
    (c.may_sleep.ensures c.if-not-may_sleep.false))

pub returns : goal.returns
returns g c = idle_driven c.args.part.now c.idle_step.new.part c.idle_step.ensures
