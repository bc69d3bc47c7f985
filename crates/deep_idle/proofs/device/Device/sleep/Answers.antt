use Rattle.std.proofs.Common.{◌≡◌, ◌∷◌, ◌++◌, length, sym, ap, ◌∙◌, arith, rules}
use Rattle.std.proofs.Common.{vec_capacity, vec_len, take, drop}
use Rattle.std.specs.Prelude.{slice_set, Some}
use Rattle.deep_idle.specs.declared.order.Sleeper.{Sleeper}
use Rattle.deep_idle.proofs.Kept.{kept_as, kept_slept, law_kept, room_left}
use Rattle.deep_idle.proofs.device.Device.sleep.Goals as goal

pub unwrap-requires : goal.unwrap-requires
unwrap-requires c =
    let s : Sleeper = record { wakeup = c.args.wakeup; cpu = c.args.cpu } in
    let len : vec_len c.self.inside.queue ≡ length c.self.inside.queue.items =
    sym c.deref.ensures.len ∙ ap length c.deref.ensures.value in
    let left = room_left c.self.inside.sleepers.items c.self.inside.queue.items s c.self.invariant.queue_of
    (rw (← c.self.view_is) at c.requires.awake) (rw (← c.self.view_is) at c.requires.cpu) in
    let room = c.self.invariant.room in
    c.insert.ensures.succeeds (omega arith)

pub invariant_of-self : goal.invariant_of-self
invariant_of-self c =
    let s : Sleeper = record { wakeup = c.args.wakeup; cpu = c.args.cpu } in
    let queue = c.self.inside.queue.items in
    let place = c.index_for-place.result in
    let len : vec_len c.self.inside.queue ≡ length c.self.inside.queue.items =
    sym c.deref.ensures.len ∙ ap length c.deref.ensures.value in
    let left = room_left c.self.inside.sleepers.items c.self.inside.queue.items s c.self.invariant.queue_of
    (rw (← c.self.view_is) at c.requires.awake) (rw (← c.self.view_is) at c.requires.cpu) in
    let room = c.self.invariant.room in
    let ok = c.insert.ensures.succeeds (omega arith) in
    let items : c.insert.new.self.items ≡ take place queue ++ s ∷ drop place queue = search rules in
    kept_as _ _ _ _ _ _ _
    (kept_slept c.self.inside.sleepers.items queue c.self.inside.time
    (vec_capacity c.self.inside.queue) (vec_capacity c.insert.new.self) place s c.self.invariant
    (rw c.deref.ensures.value at c.index_for-place.ensures.before)
    (rw c.deref.ensures.value at c.index_for-place.ensures.behind)
    (rw (← c.self.view_is) at c.requires.awake) (rw (← c.self.view_is) at c.requires.cpu)
    c.requires.some_time c.insert.ensures.capacity)
    (ap (λ k. slice_set c.self.inside.sleepers.items k (Some c.args.wakeup)) c.from.ensures)
    items c.min-self-inside.ensures

pub returns-clause-law : goal.returns-clause-law
returns-clause-law c = law_kept _ _ _ _ (invariant_of-self c)
