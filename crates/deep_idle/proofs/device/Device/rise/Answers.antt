use Rattle.std.proofs.Common.{◌<◌, ◌≤◌, length, sym, ap, subst, arith, vec_capacity}
use Rattle.std.specs.Prelude.{slice_set, None}
use Rattle.deep_idle.specs.declared.order.Sleeper.{Sleeper}
use Rattle.deep_idle.specs.Order.{IsIn}
use Rattle.deep_idle.proofs.Kept.{kept_as, kept_rose, law_kept, read_sleeper, sleeps_at}
use Rattle.deep_idle.proofs.device.Device.rise.Goals as goal

no_sleeper : Sleeper
no_sleeper = record { wakeup = 0; cpu = record { 0 = 0 } }

pub place_with-place-requires : goal.place_with-place-requires
place_with-place-requires c =
    subst (λ q. IsIn c.args.cpu.0 q) (sym c.deref.ensures.value)
    (sleeps_at c.args.cpu.0 c.in-Some._wakeup _ (c.self.invariant.queue_of.queued c.args.cpu.0 c.in-Some._wakeup
    (read_sleeper _ c.from.result c.args.cpu.0 c.in-Some._wakeup _ (rw (← c.self.view_is) at c.requires.cpu)
    c.from.ensures c.index-sleeper.ensures c.in-Some.is)))

pub invariant_of-self : goal.invariant_of-self
invariant_of-self c =
    let grows : vec_capacity c.self.inside.queue ≤ vec_capacity c.remove.new.self = omega (arith, c.remove.ensures.capacity) in
    let within : c.place_with-place.result < length c.self.inside.queue.items =
    subst (λ q. c.place_with-place.result < length q) c.deref.ensures.value c.place_with-place.ensures.within in
    kept_as _ _ _ _ _ _ _
    (kept_rose c.self.inside.sleepers.items c.self.inside.queue.items c.self.inside.time
    (vec_capacity c.self.inside.queue) (vec_capacity c.remove.new.self) c.place_with-place.result c.args.cpu.0 no_sleeper
    c.self.invariant within
    ((rw c.deref.ensures.value at c.place_with-place.ensures.cpu) no_sleeper) grows)
    (ap (λ k. slice_set c.self.inside.sleepers.items k None) c.from-2.ensures)
    c.remove.ensures.items (λ i. c.self.inside.time)

pub returns-clause-law : goal.returns-clause-law
returns-clause-law c = law_kept _ _ _ _ (invariant_of-self c)
