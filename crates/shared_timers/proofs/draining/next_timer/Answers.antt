use Rattle.std.proofs.Common.{◌<◌, sym, ap, ◌∙◌, subst}
use Rattle.wheel_core.specs.PlainBase.{PlainBase, item_of, next_out}
use Rattle.cpu_bases.specs.CpuBases.{CpuBases, base_of}
use Rattle.core_world.specs.World.{World}
use Rattle.shared_timers.proofs.Outgoing.{fits_timer, known}
use Rattle.shared_timers.proofs.draining.next_timer.Goals as goal

pub timer_of-requires : goal.timer_of-requires
timer_of-requires g c =
    let item = c.in_ok-item.item in
    let base = c.base.ensures.base
    ∙ ap (λ (z : CpuBases). base_of c.args.class z) c.bases.ensures.plain in
    fits_timer c.args.part.now.box c.args.class item c.law.ensures.fits
    (ap (λ (z : PlainBase). item_of item.id z.items) (sym base) ∙ c.in_ok-item.ensures.due.queued)

pub returns : goal.returns
returns g c =
    let item = c.in_ok-item.item in
    let now = c.requires.now in
    let base = c.base.ensures.base
    ∙ ap (λ (z : CpuBases). base_of c.args.class z) c.bases.ensures.plain in
    let low = known c.args.part.now.box c.args.class item c.law.ensures.fits
    (ap (λ (z : PlainBase). item_of item.id z.items) (sym base)
    ∙ c.in_ok-item.ensures.due.queued) in (
      item,
      sym c.timer_of.ensures,
      subst (λ (w : World). item.id < w.timers) c.law.ensures.opening low,
      (λ i. next_out (sym now i) (sym base i)) ∙ sym c.in_ok-item.ensures.item,
    )
