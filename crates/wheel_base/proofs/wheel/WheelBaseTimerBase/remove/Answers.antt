use Rattle.std.proofs.Common.{◌≡◌, ◌∙◌, ◌+◌, Some, None, length, ap, sym, subst, arith}
use Rattle.wheel_core.specs.PlainBase.{NoneBehind, PlainBase, item_of, sooner, least}
use Rattle.wheel_core.proofs.Ids.{gone_without, length-without, without_none}
use Rattle.wheel_core.proofs.Plain.{none_behind_removed}
use Rattle.wheel_base.specs.Files.{IsStored, items_of}
use Rattle.wheel_base.proofs.Timed.{items_removed, keeps_taken, least_taken, near_stored, near_taken, placed_stored}
use Rattle.wheel_base.proofs.wheel.WheelBaseTimerBase.remove.Goals as goal

pub returns-in_err-key-clause-base : goal.returns-in_err-key-clause-base
returns-in_err-key-clause-base c =
    let at = c.self.inside in
    rw (← c.self.view_is)
    (ap (λ items. record { plain = record { items = items; clock = at.clock }; capacity = at.capacity })
    (sym (without_none c.args.id (items_of at.store.filed) c.in_err-key.ensures)))

pub first_left-self-inside-requires-clause-before : goal.first_left-self-inside-requires-clause-before
first_left-self-inside-requires-clause-before c =
    c.self.invariant.known
    ∙ (least_taken c.in_ok-key.key c.take-item.result c.self.inside.store.filed (sym c.take-item.ensures.item)
    ∙ ap (λ filed. Some (sooner c.take-item.result.wheel (least (items_of filed)))) (sym c.take-item.ensures.filed))

pub first_left-self-inside-requires-clause-near : goal.first_left-self-inside-requires-clause-near
first_left-self-inside-requires-clause-near c = λ first.
    near_taken c.self.inside.store c.take-item.new.self c.in_ok-key.key c.take-item.result c.self.inside.clock c.self.inside.first c.self.inside.capacity c.self.invariant c.take-item.ensures.filed (sym c.self.invariant.known ∙ first)

pub first_left-self-inside-requires-clause-in_time : goal.first_left-self-inside-requires-clause-in_time
first_left-self-inside-requires-clause-in_time c =
    (placed_stored c.in_ok-key.key c.take-item.result c.self.inside.store.filed c.self.invariant.sound.in_wheel (sym c.take-item.ensures.item)).wheel

pub first_left-self-inside-requires-clause-level : goal.first_left-self-inside-requires-clause-level
first_left-self-inside-requires-clause-level c =
    (placed_stored c.in_ok-key.key c.take-item.result c.self.inside.store.filed c.self.invariant.sound.in_wheel (sym c.take-item.ensures.item)).level

pub first_left-self-inside-requires-clause-granule : goal.first_left-self-inside-requires-clause-granule
first_left-self-inside-requires-clause-granule c =
    (near_stored c.self.inside.store c.in_ok-key.key c.take-item.result c.self.inside.clock c.self.inside.first c.self.inside.capacity c.self.invariant (sym c.take-item.ensures.item)).granule

pub invariant_of-self : goal.invariant_of-self
invariant_of-self c =
    let stored : IsStored c.self.inside.store.filed (c.in_ok-key.key, c.take-item.result) = record { has = c.in_ok-key.ensures.stored.has; under = sym c.take-item.ensures.item } in
    keeps_taken c.self.inside.store c.take-item.new.self c.in_ok-key.key c.take-item.result c.self.inside.clock c.self.inside.clock c.self.inside.first c.first_left-self-inside.result c.self.inside.capacity
    c.self.invariant stored c.take-item.ensures.filed c.take-item.ensures.room c.first_left-self-inside.ensures (omega arith)

pub returns-clause-base : goal.returns-clause-base
returns-clause-base c =
    let at = c.self.inside in
    let left = items_removed c.args.id c.in_ok-key.key c.take-item.result at.store c.take-item.new.self c.self.invariant.sound c.in_ok-key.ensures c.take-item.ensures.item c.take-item.ensures.filed in
    rw (← c.self.view_is)
    (ap (λ items. record { plain = record { items = items; clock = at.clock }; capacity = at.capacity }) left)

pub returns-clause-gone : goal.returns-clause-gone
returns-clause-gone c =
    let at = c.self.inside in
    let left = items_removed c.args.id c.in_ok-key.key c.take-item.result at.store c.take-item.new.self c.self.invariant.sound c.in_ok-key.ensures c.take-item.ensures.item c.take-item.ensures.filed in
    subst (λ items. item_of c.args.id items ≡ None) (sym left) (gone_without c.args.id (items_of at.store.filed) c.self.invariant.sound.distinct)

pub returns-clause-one_fewer : goal.returns-clause-one_fewer
returns-clause-one_fewer c =
    let at = c.self.inside in
    let left = items_removed c.args.id c.in_ok-key.key c.take-item.result at.store c.take-item.new.self c.self.invariant.sound c.in_ok-key.ensures c.take-item.ensures.item c.take-item.ensures.filed in
    let shorter = length-without c.args.id (items_of at.store.filed) c.in_ok-key.ensures.item c.in_ok-key.ensures.item_is in
    rw (← c.self.view_is)
    (subst (λ items. length items + 1 ≡ length (items_of at.store.filed)) (sym left) shorter)

pub returns-clause-none_behind : goal.returns-clause-none_behind
returns-clause-none_behind c =
    let at = c.self.inside in
    let left = items_removed c.args.id c.in_ok-key.key c.take-item.result at.store c.take-item.new.self c.self.invariant.sound c.in_ok-key.ensures c.take-item.ensures.item c.take-item.ensures.filed in
    let base : PlainBase = record { items = items_of at.store.filed; clock = at.clock } in
    λ ahead.
    subst (λ items. NoneBehind (record { items = items; clock = at.clock })) (sym left)
    (none_behind_removed c.args.id base (subst (λ b. NoneBehind b.plain) (sym c.self.view_is) ahead))
