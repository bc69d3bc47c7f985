use Rattle.std.proofs.Common.{◌≡◌, ◌<◌, ◌+◌, ◌*◌, ◌/◌, arith, ap, ◌∙◌, sym, subst, rules, None, Some}
use Rattle.std.proofs.lemmas.Nat.{mod_below}
use Rattle.wheel_core.specs.declared.item.Item.{Item}
use Rattle.wheel_core.specs.WheelExpiry.{granularity}
use Rattle.wheel_base.specs.Files.{item_at, place_at, HasKey, bucket_of, item_under, without_key}
use Rattle.wheel_base.proofs.Leaving.{held_armed, held_bucket, held_name, slot_is, item_is, taken_is, filed_less, filed_less_is, last_none, last_some, marked_less, marked_still}
use Rattle.key_lists.specs.Tables.{last_of, list_of}
use Rattle.wheel_base.proofs.store.Store.take.Goals as goal

pub remove-item-requires : goal.remove-item-requires
remove-item-requires c =
    let has = subst (λ files. HasKey c.args.key files.filed) (sym c.self.view_is) c.requires.held in
    let slot = slot_is c.self.inside.items c.self.inside.armed c.self.inside.buckets c.self.inside.names c.self.inside.mask c.self.inside.marks c.args.key c.self.invariant has in
    rw slot.0 (search rules)

pub unlink-requires : goal.unlink-requires
unlink-requires c =
    let has = subst (λ files. HasKey c.args.key files.filed) (sym c.self.view_is) c.requires.held in
    record { held = held_armed c.self.inside.items c.self.inside.armed c.self.inside.buckets c.self.inside.names c.self.inside.mask c.self.inside.marks c.args.key c.self.invariant has }

pub unlink-requires-2 : goal.unlink-requires-2
unlink-requires-2 c =
    let has = subst (λ files. HasKey c.args.key files.filed) (sym c.self.view_is) c.requires.held in
    let item = item_is c.self.inside.items c.self.inside.armed c.self.inside.buckets c.self.inside.names c.self.inside.mask c.self.inside.marks c.args.key c.self.invariant has c.remove-item.result c.remove-item.ensures.value in
    let slot = slot_is c.self.inside.items c.self.inside.armed c.self.inside.buckets c.self.inside.names c.self.inside.mask c.self.inside.marks c.args.key c.self.invariant has in
    let level : c.remove-item.result.level < 9 = subst (λ (x : Item). x.level < 9) item slot.1 in
    let r = c.remove-item.result in
    record { held = held_bucket c.self.inside.items c.self.inside.armed c.self.inside.buckets c.self.inside.names c.self.inside.mask c.self.inside.marks c.args.key c.self.invariant has r.level (place_at r.level r.wheel) (mod_below (r.wheel / granularity r.level) 64 (omega arith)) level (ap bucket_of item) }

pub unlink-requires-3 : goal.unlink-requires-3
unlink-requires-3 c =
    let has = subst (λ files. HasKey c.args.key files.filed) (sym c.self.view_is) c.requires.held in
    record { held = held_name c.self.inside.items c.self.inside.armed c.self.inside.buckets c.self.inside.names c.self.inside.mask c.self.inside.marks c.args.key c.self.invariant has }

pub wheel_place-place-requires : goal.wheel_place-place-requires
wheel_place-place-requires c =
    let has = subst (λ files. HasKey c.args.key files.filed) (sym c.self.view_is) c.requires.held in
    let item = item_is c.self.inside.items c.self.inside.armed c.self.inside.buckets c.self.inside.names c.self.inside.mask c.self.inside.marks c.args.key c.self.invariant has c.remove-item.result c.remove-item.ensures.value in
    let slot = slot_is c.self.inside.items c.self.inside.armed c.self.inside.buckets c.self.inside.names c.self.inside.mask c.self.inside.marks c.args.key c.self.invariant has in
    let level : c.remove-item.result.level < 9 = subst (λ (x : Item). x.level < 9) item slot.1 in
    level

pub newest-requires : goal.newest-requires
newest-requires c =
    let has = subst (λ files. HasKey c.args.key files.filed) (sym c.self.view_is) c.requires.held in
    let item = item_is c.self.inside.items c.self.inside.armed c.self.inside.buckets c.self.inside.names c.self.inside.mask c.self.inside.marks c.args.key c.self.invariant has c.remove-item.result c.remove-item.ensures.value in
    let slot = slot_is c.self.inside.items c.self.inside.armed c.self.inside.buckets c.self.inside.names c.self.inside.mask c.self.inside.marks c.args.key c.self.invariant has in
    let level : c.remove-item.result.level < 9 = subst (λ (x : Item). x.level < 9) item slot.1 in
    omega (arith, c.self.invariant.many, c.unlink-2.ensures.number, c.from-level.ensures, c.from.ensures, c.wheel_place-place.ensures.below)

pub bounds-self-inside-level : goal.bounds-self-inside-level
bounds-self-inside-level c =
    let has = subst (λ files. HasKey c.args.key files.filed) (sym c.self.view_is) c.requires.held in
    let item = item_is c.self.inside.items c.self.inside.armed c.self.inside.buckets c.self.inside.names c.self.inside.mask c.self.inside.marks c.args.key c.self.invariant has c.remove-item.result c.remove-item.ensures.value in
    let slot = slot_is c.self.inside.items c.self.inside.armed c.self.inside.buckets c.self.inside.names c.self.inside.mask c.self.inside.marks c.args.key c.self.invariant has in
    let level : c.remove-item.result.level < 9 = subst (λ (x : Item). x.level < 9) item slot.1 in
    omega (arith, c.from-level.ensures)

pub bounds-self-inside-level-then-is_none : goal.bounds-self-inside-level-then-is_none
bounds-self-inside-level-then-is_none c =
    let has = subst (λ files. HasKey c.args.key files.filed) (sym c.self.view_is) c.requires.held in
    let item = item_is c.self.inside.items c.self.inside.armed c.self.inside.buckets c.self.inside.names c.self.inside.mask c.self.inside.marks c.args.key c.self.invariant has c.remove-item.result c.remove-item.ensures.value in
    let slot = slot_is c.self.inside.items c.self.inside.armed c.self.inside.buckets c.self.inside.names c.self.inside.mask c.self.inside.marks c.args.key c.self.invariant has in
    let level : c.remove-item.result.level < 9 = subst (λ (x : Item). x.level < 9) item slot.1 in
    omega (arith, c.from-level.ensures)

pub invariant_of-self : goal.invariant_of-self
invariant_of-self c =
    let has = subst (λ files. HasKey c.args.key files.filed) (sym c.self.view_is) c.requires.held in
    let item = item_is c.self.inside.items c.self.inside.armed c.self.inside.buckets c.self.inside.names c.self.inside.mask c.self.inside.marks c.args.key c.self.invariant has c.remove-item.result c.remove-item.ensures.value in
    let slot = slot_is c.self.inside.items c.self.inside.armed c.self.inside.buckets c.self.inside.names c.self.inside.mask c.self.inside.marks c.args.key c.self.invariant has in
    let level : c.remove-item.result.level < 9 = subst (λ (x : Item). x.level < 9) item slot.1 in
    let bucket : bucket_of (item_at c.self.inside.items.slots c.args.key) ≡ 64 * c.from-level.result + c.wheel_place-place.result = ap bucket_of item ∙ omega (arith, c.wheel_place-place.ensures.place, c.from-level.ensures) in
    let empty = last_none c.newest.result c.is_none.result _ c.is_none.ensures c.if-is_none.true c.newest.ensures in
    let last = subst (λ place. last_of (list_of c.unlink-2.new.self (64 * c.from-level.result + place)) ≡ None) c.from.ensures empty in
    filed_less c.self.inside.items c.self.inside.armed c.self.inside.buckets c.self.inside.names c.self.inside.mask c.self.inside.marks c.args.key c.self.invariant has c.remove-item.new.self c.unlink.new.self c.unlink-2.new.self c.remove-item.ensures.updates c.unlink.ensures.lists c.unlink-2.ensures.number c.unlink-2.ensures.lists c.unlink-3.new.self _
    (marked_less c.self.inside.items c.self.inside.armed c.self.inside.buckets c.self.inside.names c.self.inside.mask c.self.inside.marks c.args.key c.self.invariant has c.remove-item.new.self c.unlink.new.self c.unlink-2.new.self c.remove-item.ensures.updates c.unlink.ensures.lists c.unlink-2.ensures.number c.unlink-2.ensures.lists c.from-level.result c.wheel_place-place.result c.self.told c.wheel_place-place.ensures.below (omega (arith, c.from-level.ensures)) bucket last)
    c.remove-item.ensures.len c.remove-item.ensures.capacity c.unlink.ensures.number c.unlink.ensures.room c.unlink-2.ensures.room c.unlink-3.ensures.number c.unlink-3.ensures.room c.unlink-3.ensures.lists

pub invariant_of-self-else-is_none : goal.invariant_of-self-else-is_none
invariant_of-self-else-is_none c =
    let has = subst (λ files. HasKey c.args.key files.filed) (sym c.self.view_is) c.requires.held in
    let item = item_is c.self.inside.items c.self.inside.armed c.self.inside.buckets c.self.inside.names c.self.inside.mask c.self.inside.marks c.args.key c.self.invariant has c.remove-item.result c.remove-item.ensures.value in
    let slot = slot_is c.self.inside.items c.self.inside.armed c.self.inside.buckets c.self.inside.names c.self.inside.mask c.self.inside.marks c.args.key c.self.invariant has in
    let level : c.remove-item.result.level < 9 = subst (λ (x : Item). x.level < 9) item slot.1 in
    let bucket : bucket_of (item_at c.self.inside.items.slots c.args.key) ≡ 64 * c.from-level.result + c.wheel_place-place.result = ap bucket_of item ∙ omega (arith, c.wheel_place-place.ensures.place, c.from-level.ensures) in
    let some = last_some c.newest.result c.is_none.result _ c.is_none.ensures c.if-is_none.false c.newest.ensures in
    let last = subst (λ place. last_of (list_of c.unlink-2.new.self (64 * c.from-level.result + place)) ≡ Some some.0) c.from.ensures some.1 in
    filed_less c.self.inside.items c.self.inside.armed c.self.inside.buckets c.self.inside.names c.self.inside.mask c.self.inside.marks c.args.key c.self.invariant has c.remove-item.new.self c.unlink.new.self c.unlink-2.new.self c.remove-item.ensures.updates c.unlink.ensures.lists c.unlink-2.ensures.number c.unlink-2.ensures.lists c.unlink-3.new.self _
    (marked_still c.self.inside.items c.self.inside.armed c.self.inside.buckets c.self.inside.names c.self.inside.mask c.self.inside.marks c.args.key c.self.invariant has c.remove-item.new.self c.unlink.new.self c.unlink-2.new.self c.remove-item.ensures.updates c.unlink.ensures.lists c.unlink-2.ensures.number c.unlink-2.ensures.lists c.from-level.result c.wheel_place-place.result some.0 c.wheel_place-place.ensures.below (omega (arith, c.from-level.ensures)) bucket last)
    c.remove-item.ensures.len c.remove-item.ensures.capacity c.unlink.ensures.number c.unlink.ensures.room c.unlink-2.ensures.room c.unlink-3.ensures.number c.unlink-3.ensures.room c.unlink-3.ensures.lists

pub returns-then-is_none-clause-item : goal.returns-then-is_none-clause-item
returns-then-is_none-clause-item c =
    let has = subst (λ files. HasKey c.args.key files.filed) (sym c.self.view_is) c.requires.held in
    taken_is c.self.inside.items c.self.inside.armed c.self.inside.buckets c.self.inside.names c.self.inside.mask c.self.inside.marks c.args.key c.self.invariant has c.remove-item.result c.remove-item.ensures.value
    ∙ ap (λ files. item_under c.args.key files.filed) c.self.view_is

pub returns-else-is_none-clause-item : goal.returns-else-is_none-clause-item
returns-else-is_none-clause-item c =
    let has = subst (λ files. HasKey c.args.key files.filed) (sym c.self.view_is) c.requires.held in
    taken_is c.self.inside.items c.self.inside.armed c.self.inside.buckets c.self.inside.names c.self.inside.mask c.self.inside.marks c.args.key c.self.invariant has c.remove-item.result c.remove-item.ensures.value
    ∙ ap (λ files. item_under c.args.key files.filed) c.self.view_is

pub returns-then-is_none-clause-filed : goal.returns-then-is_none-clause-filed
returns-then-is_none-clause-filed c =
    let has = subst (λ files. HasKey c.args.key files.filed) (sym c.self.view_is) c.requires.held in
    filed_less_is c.self.inside.items c.self.inside.armed c.self.inside.buckets c.self.inside.names c.self.inside.mask c.self.inside.marks c.args.key c.self.invariant has c.remove-item.new.self c.unlink.new.self c.unlink-2.new.self c.remove-item.ensures.updates c.unlink.ensures.lists c.unlink-2.ensures.number c.unlink-2.ensures.lists
    ∙ ap (λ files. without_key c.args.key files.filed) c.self.view_is

pub returns-else-is_none-clause-filed : goal.returns-else-is_none-clause-filed
returns-else-is_none-clause-filed c =
    let has = subst (λ files. HasKey c.args.key files.filed) (sym c.self.view_is) c.requires.held in
    filed_less_is c.self.inside.items c.self.inside.armed c.self.inside.buckets c.self.inside.names c.self.inside.mask c.self.inside.marks c.args.key c.self.invariant has c.remove-item.new.self c.unlink.new.self c.unlink-2.new.self c.remove-item.ensures.updates c.unlink.ensures.lists c.unlink-2.ensures.number c.unlink-2.ensures.lists
    ∙ ap (λ files. without_key c.args.key files.filed) c.self.view_is
