use Rattle.std.proofs.Common.{◌≡◌, length, ap, ◌∙◌, subst, arith, vec_capacity}
use Rattle.std.specs.Prelude.{map}
use Rattle.std.proofs.lemmas.List.{length-map}
use Rattle.deep_idle.specs.Device.{DeviceState, asleep_still, fired, least_wakeup}
use Rattle.deep_idle.specs.Order.{first_wakeup}
use Rattle.deep_idle.proofs.Kept.{kept_as, kept_fired, law_kept, least_first}
use Rattle.deep_idle.proofs.device.Device.fire.Goals as goal

pub invariant_of-self : goal.invariant_of-self
invariant_of-self c =
    let len : length c.wake_due-due.new.sleepers.items ≡ length c.self.inside.sleepers.items =
    ap length c.wake_due-due.ensures.sleepers ∙ length-map c.self.inside.sleepers.items (asleep_still c.args.now) in
    let few = c.self.invariant.few in let room = c.self.invariant.room in
    let same = c.wake_due-due.ensures.capacity in
    kept_as _ _ _ _ _ _ _
    (kept_fired c.wake_due-due.new.sleepers.items c.wake_due-due.new.queue.items (vec_capacity c.wake_due-due.new.queue)
    c.wake_due-due.ensures.queue_of (omega arith) (omega arith))
    (λ i. c.wake_due-due.new.sleepers.items) (λ i. c.wake_due-due.new.queue.items)
    (c.first_wakeup-self-inside.ensures ∙ ap first_wakeup c.deref.ensures.value)

pub returns-clause-after : goal.returns-clause-after
returns-clause-after c =
    let s = c.wake_due-due.ensures.sleepers in
    let t : c.first_wakeup-self-inside.result ≡ least_wakeup (map (asleep_still c.args.now) c.self.inside.sleepers.items) =
    c.first_wakeup-self-inside.ensures ∙ ap first_wakeup c.deref.ensures.value
    ∙ least_first _ _ c.wake_due-due.ensures.queue_of ∙ ap least_wakeup s in
    let now_is : DeviceState = record { sleepers = c.wake_due-due.new.sleepers.items; time = c.first_wakeup-self-inside.result } in
    subst (λ (d : DeviceState). now_is ≡ fired c.args.now d) c.self.view_is
    (λ i. record { sleepers = s i; time = t i })

pub returns-clause-law : goal.returns-clause-law
returns-clause-law c = law_kept _ _ _ _ (invariant_of-self c)
