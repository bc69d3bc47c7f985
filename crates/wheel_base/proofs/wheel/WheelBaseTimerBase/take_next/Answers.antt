use Rattle.std.proofs.Common.{◌≡◌, ◌+◌, length, ap, ◌∙◌, subst, sym, arith, None, Some}
use Rattle.wheel_core.specs.PlainBase.{OutIsDue, PlainBase, after_out, item_of, least, sooner}
use Rattle.wheel_core.proofs.HandOut.{out_is_due}
use Rattle.wheel_core.proofs.Ids.{gone_without}
use Rattle.wheel_core.proofs.Plain.{none_behind_out, one_fewer_after_out}
use Rattle.wheel_base.specs.Files.{items_of}
use Rattle.wheel_base.proofs.GoingOut.{taken_out}
use Rattle.wheel_base.proofs.Timed.{items_without, keeps_taken, least_taken, near_stored, near_taken, placed_stored}
use Rattle.wheel_base.proofs.wheel.WheelBaseTimerBase.take_next.Goals as goal

pub returns-in_err-key-clause-due : goal.returns-in_err-key-clause-due
returns-in_err-key-clause-due c =
    let items = items_of c.self.inside.store.filed in
    rw c.from_residual.ensures
    (subst (λ b. OutIsDue c.args.now b.plain.items None) c.self.view_is
    (subst (OutIsDue c.args.now items) c.in_err-key.ensures (out_is_due c.args.now items c.self.invariant.sound.distinct)))

pub returns-in_err-key-clause-none_behind : goal.returns-in_err-key-clause-none_behind
returns-in_err-key-clause-none_behind c =
    let base : PlainBase = record { items = items_of c.self.inside.store.filed; clock = c.self.inside.clock } in
    rw (c.from_residual.ensures, ← c.self.view_is)
    (none_behind_out c.args.now base c.self.invariant.sound c.in_err-key.ensures)

pub first_left-self-inside-requires-clause-before : goal.first_left-self-inside-requires-clause-before
first_left-self-inside-requires-clause-before c =
    let out = taken_out c.args.now c.in_ok-key.key c.in_ok-key._next c.take-item.result c.self.inside.store.filed c.in_ok-key.ensures c.take-item.ensures.item in
    c.self.invariant.known
    ∙ (least_taken c.in_ok-key.key c.take-item.result c.self.inside.store.filed out.stored.under
    ∙ ap (λ filed. Some (sooner c.take-item.result.wheel (least (items_of filed)))) (sym c.take-item.ensures.filed))

pub first_left-self-inside-requires-clause-near : goal.first_left-self-inside-requires-clause-near
first_left-self-inside-requires-clause-near c = λ first.
    let out = taken_out c.args.now c.in_ok-key.key c.in_ok-key._next c.take-item.result c.self.inside.store.filed c.in_ok-key.ensures c.take-item.ensures.item in
    near_taken c.self.inside.store c.take-item.new.self c.in_ok-key.key c.take-item.result c.self.inside.clock c.self.inside.first c.self.inside.capacity c.self.invariant c.take-item.ensures.filed out.first

pub first_left-self-inside-requires-clause-in_time : goal.first_left-self-inside-requires-clause-in_time
first_left-self-inside-requires-clause-in_time c =
    let out = taken_out c.args.now c.in_ok-key.key c.in_ok-key._next c.take-item.result c.self.inside.store.filed c.in_ok-key.ensures c.take-item.ensures.item in
    (placed_stored c.in_ok-key.key c.take-item.result c.self.inside.store.filed c.self.invariant.sound.in_wheel out.stored.under).wheel

pub first_left-self-inside-requires-clause-level : goal.first_left-self-inside-requires-clause-level
first_left-self-inside-requires-clause-level c =
    let out = taken_out c.args.now c.in_ok-key.key c.in_ok-key._next c.take-item.result c.self.inside.store.filed c.in_ok-key.ensures c.take-item.ensures.item in
    (placed_stored c.in_ok-key.key c.take-item.result c.self.inside.store.filed c.self.invariant.sound.in_wheel out.stored.under).level

pub first_left-self-inside-requires-clause-granule : goal.first_left-self-inside-requires-clause-granule
first_left-self-inside-requires-clause-granule c =
    let out = taken_out c.args.now c.in_ok-key.key c.in_ok-key._next c.take-item.result c.self.inside.store.filed c.in_ok-key.ensures c.take-item.ensures.item in
    (near_stored c.self.inside.store c.in_ok-key.key c.take-item.result c.self.inside.clock c.self.inside.first c.self.inside.capacity c.self.invariant out.stored.under).granule

pub invariant_of-self : goal.invariant_of-self
invariant_of-self c =
    let out = taken_out c.args.now c.in_ok-key.key c.in_ok-key._next c.take-item.result c.self.inside.store.filed c.in_ok-key.ensures c.take-item.ensures.item in
    keeps_taken c.self.inside.store c.take-item.new.self c.in_ok-key.key c.take-item.result c.self.inside.clock c.max-self-inside.result c.self.inside.first c.first_left-self-inside.result c.self.inside.capacity
    c.self.invariant out.stored c.take-item.ensures.filed c.take-item.ensures.room c.first_left-self-inside.ensures (omega (arith, c.max-self-inside.ensures))

pub returns-clause-due : goal.returns-clause-due
returns-clause-due c =
    let out = taken_out c.args.now c.in_ok-key.key c.in_ok-key._next c.take-item.result c.self.inside.store.filed c.in_ok-key.ensures c.take-item.ensures.item in
    let items = items_of c.self.inside.store.filed in
    subst (λ b. OutIsDue c.args.now b.plain.items (Some c.take-item.result)) c.self.view_is
    (subst (OutIsDue c.args.now items) out.out (out_is_due c.args.now items c.self.invariant.sound.distinct))

pub returns-clause-base : goal.returns-clause-base
returns-clause-base c =
    let out = taken_out c.args.now c.in_ok-key.key c.in_ok-key._next c.take-item.result c.self.inside.store.filed c.in_ok-key.ensures c.take-item.ensures.item in
    let at = c.self.inside in
    let base : PlainBase = record { items = items_of at.store.filed; clock = at.clock } in
    let rest = ap items_of c.take-item.ensures.filed ∙ items_without c.in_ok-key.key c.take-item.result at.store.filed c.self.invariant.sound.distinct out.stored.under in
    let past = c.max-self-inside.ensures in
    rw (← c.self.view_is)
    ((λ i. record { plain = record { items = rest i; clock = past i }; capacity = at.capacity })
    ∙ ap (λ gone. record { plain = after_out base gone; capacity = at.capacity }) (sym out.out))

pub returns-clause-gone : goal.returns-clause-gone
returns-clause-gone c =
    let out = taken_out c.args.now c.in_ok-key.key c.in_ok-key._next c.take-item.result c.self.inside.store.filed c.in_ok-key.ensures c.take-item.ensures.item in
    let at = c.self.inside in
    let rest = ap items_of c.take-item.ensures.filed ∙ items_without c.in_ok-key.key c.take-item.result at.store.filed c.self.invariant.sound.distinct out.stored.under in
    subst (λ items. item_of c.take-item.result.id items ≡ None) (sym rest) (gone_without c.take-item.result.id (items_of at.store.filed) c.self.invariant.sound.distinct)

pub returns-clause-one_fewer : goal.returns-clause-one_fewer
returns-clause-one_fewer c =
    let out = taken_out c.args.now c.in_ok-key.key c.in_ok-key._next c.take-item.result c.self.inside.store.filed c.in_ok-key.ensures c.take-item.ensures.item in
    let at = c.self.inside in
    let items = items_of at.store.filed in
    let base : PlainBase = record { items = items; clock = at.clock } in
    let rest = ap items_of c.take-item.ensures.filed ∙ items_without c.in_ok-key.key c.take-item.result at.store.filed c.self.invariant.sound.distinct out.stored.under in
    let due = subst (OutIsDue c.args.now items) out.out (out_is_due c.args.now items c.self.invariant.sound.distinct) in
    rw (← c.self.view_is)
    (subst (λ left. length left + 1 ≡ length items) (sym rest) (one_fewer_after_out c.args.now base c.take-item.result due))
