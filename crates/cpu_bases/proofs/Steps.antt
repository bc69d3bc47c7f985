-- what the code's steps make of three bases with their room and a journal
use Rattle.std.proofs.Common.{◌≡◌, ℕ, ◌^◌, ◌<◌, List, [], ◌∷◌, ◌++◌, Option, Some}
use Rattle.std.proofs.Common.{None}
use Rattle.std.proofs.Common.{refl, ap, subst, sym, ◌∙◌}
use Rattle.tm_base.specs.declared.names.Class.{Class}
use Rattle.tm_base.specs.declared.names.Class.TheVariants.{Pinned, Global, Deferrable}
use Rattle.tm_base.specs.declared.names.CpuId.{CpuId}
use Rattle.wheel_core.specs.declared.item.Item.{Item}
use Rattle.wheel_core.specs.PlainBase.{PlainBase, RoomyBase, added, after_out, forwarded, item_of}
use Rattle.wheel_core.specs.PlainBase.{next_out, item_added, removed, taken}
use Rattle.wheel_core.proofs.Ids.{item_holds}
use Rattle.cpu_bases.specs.declared.entry.Act.{Act}
use Rattle.cpu_bases.specs.declared.entry.Act.TheVariants.{Handed, Cancelled, MovedOut}
use Rattle.cpu_bases.specs.declared.entry.Entry.{Entry}
use Rattle.cpu_bases.specs.ByClass.{ByClass, of_class, with_class}
use Rattle.cpu_bases.specs.CpuBases.{CpuBases, IsConsistent, after_cancel, after_hand_out}
use Rattle.cpu_bases.specs.CpuBases.{after_move_out, cancelled, changed, entry_of, found_in}
use Rattle.cpu_bases.specs.CpuBases.{handed_out}
use Rattle.cpu_bases.specs.CpuBases.{moved_out, oldest_in, queued, ticked_entry, written}
use Rattle.cpu_bases.proofs.Classes.{with_itself}
use Rattle.cpu_bases.proofs.Keeping.{found_at}
use Rattle.cpu_bases.specs.Trio.{HasCapacity, IsKept, on_class, plain_of, plains}

-- the base of a class, and a change of it
pub plain_base : (class : Class) (trio : ByClass RoomyBase)
    → of_class class (plains trio) ≡ (of_class class trio).plain
plain_base Pinned trio = refl
plain_base Global trio = refl
plain_base Deferrable trio = refl

plains_on : (class : Class) (change : PlainBase → PlainBase) (trio : ByClass RoomyBase)
    → plains (on_class class change trio)
    ≡ with_class class (change (of_class class (plains trio))) (plains trio)
plains_on Pinned change trio = refl
plains_on Global change trio = refl
plains_on Deferrable change trio = refl

pub capacity_on : (timers : ℕ) (class : Class) (change : PlainBase → PlainBase)
    (trio : ByClass RoomyBase) → HasCapacity timers trio
    → HasCapacity timers (on_class class change trio)
capacity_on timers Pinned change trio room =
    record { pinned = room.pinned; global = room.global; deferrable = room.deferrable }
capacity_on timers Global change trio room =
    record { pinned = room.pinned; global = room.global; deferrable = room.deferrable }
capacity_on timers Deferrable change trio room =
    record { pinned = room.pinned; global = room.global; deferrable = room.deferrable }

-- the base of a class is changed and an entry is written
pub stored : (class : Class) (change : PlainBase → PlainBase) (trio next : ByClass RoomyBase)
    (journal after : List Entry) (entry : Entry) → next ≡ on_class class change trio
    → after ≡ journal ++ entry ∷ []
    → plain_of next after
    ≡ changed class (change (of_class class (plains trio))) entry (plain_of trio journal)
stored class change trio next journal after entry next_is after_is =
    (λ i. plain_of (next_is i) (after_is i))
    ∙ ap (λ bases. record { bases = bases; journal = journal ++ entry ∷ [] })
    (plains_on class change trio)

-- a timer is queued
pub stored_queued : (act : Act) (line at time : ℕ) (class : Class) (timer expires job arg : ℕ)
    (by : CpuId) (trio next : ByClass RoomyBase) (journal after : List Entry) (item : Item)
    (entry : Entry)
    → item ≡ item_added (forwarded time (of_class class trio).plain).clock timer expires job arg
    → next ≡ on_class class (λ b. added timer expires job arg (forwarded time b)) trio
    → entry ≡ entry_of act line at class item by → after ≡ journal ++ entry ∷ []
    → plain_of next after
    ≡ queued act line at time class timer expires job arg by (plain_of trio journal)
stored_queued act line at time class timer expires job arg by trio next journal after item entry
    item_is next_is entry_is after_is =
    let same =
    item_is
    ∙ ap (λ b. item_added (forwarded time b).clock timer expires job arg)
    (sym (plain_base class trio)) in
    stored class (λ b. added timer expires job arg (forwarded time b)) trio next journal after
    (entry_of act line at class (item_added (forwarded time (of_class class (plains trio))).clock timer
    expires job arg) by)
    next_is
    (after_is
    ∙ ap (λ e. journal ++ e ∷ []) (entry_is ∙ ap (λ i. entry_of act line at class i by) same))

-- what is kept is kept by what the bases have become
pub kept_so : (timers : ℕ) (class : Class) (change : PlainBase → PlainBase)
    (trio next : ByClass RoomyBase) (journal after : List Entry) (plain : CpuBases)
    → IsKept trio journal timers → next ≡ on_class class change trio
    → plain_of next after ≡ plain → IsConsistent plain → IsKept next after timers
kept_so timers class change trio next journal after plain kept next_is same consistent = record {
  consistent = subst IsConsistent (sym same) consistent;
  room = subst (HasCapacity timers) (sym next_is) (capacity_on timers class change trio kept.room);
}

-- a timer goes out by hand-out, or the base is drained
abbrev pub entry_out : (now : ℕ) → Class → CpuId → Option Item → Entry
entry_out now class by None = ticked_entry now class by
entry_out now class by (Some item) = entry_of Handed 0 now class item by

pub stored_taken : (now : ℕ) (class : Class) (by : CpuId) (trio next : ByClass RoomyBase)
    (journal after : List Entry) (out : Option Item) (entry : Entry)
    → out ≡ next_out now (of_class class trio).plain → next ≡ on_class class (taken now) trio
    → entry ≡ entry_out now class by out → after ≡ journal ++ entry ∷ []
    → plain_of next after ≡ handed_out now class by (plain_of trio journal)
stored_taken now class by trio next journal after None entry item_is next_is entry_is after_is =
    let cpu = plain_of trio journal in
    let base = of_class class (plains trio) in
    let out_is = item_is ∙ ap (next_out now) (sym (plain_base class trio)) in
    stored class (taken now) trio next journal after entry next_is after_is
    ∙ (ap (λ out. changed class (after_out base out) entry cpu) (sym out_is)
    ∙ (ap (λ bases. record { bases = bases; journal = journal ++ entry ∷ [] })
    (with_itself class (plains trio))
    ∙ (ap (λ e. written e cpu) entry_is ∙ ap (λ out. after_hand_out out now class by cpu) out_is)))
stored_taken now class by trio next journal after (Some item) entry item_is next_is entry_is
    after_is =
    let cpu = plain_of trio journal in
    let base = of_class class (plains trio) in
    let out_is = item_is ∙ ap (next_out now) (sym (plain_base class trio)) in
    stored class (taken now) trio next journal after entry next_is after_is
    ∙ (ap (λ e. changed class (taken now base) e cpu) entry_is
    ∙ ap (λ out. after_hand_out out now class by cpu) out_is)

-- the first in arming order goes out
pub stored_oldest : (now : ℕ) (class : Class) (by : CpuId) (trio next : ByClass RoomyBase)
    (journal after : List Entry) (item : Item) (entry : Entry)
    → Some item ≡ oldest_in (of_class class trio).plain.items
    → next ≡ on_class class (removed item.id) trio
    → entry ≡ entry_of MovedOut 0 now class item by → after ≡ journal ++ entry ∷ []
    → plain_of next after ≡ moved_out now class by (plain_of trio journal)
stored_oldest now class by trio next journal after item entry item_is next_is entry_is after_is =
    let cpu = plain_of trio journal in
    let base = of_class class (plains trio) in
    let out_is = item_is ∙ ap (λ b. oldest_in b.items) (sym (plain_base class trio)) in
    stored class (removed item.id) trio next journal after entry next_is after_is
    ∙ (ap (λ e. changed class (removed item.id base) e cpu) entry_is
    ∙ ap (λ out. after_move_out out now class by cpu) out_is)

-- a timer goes out of the base that it is in
pub stored_found : (now id line : ℕ) (class : Class) (by : CpuId) (trio next : ByClass RoomyBase)
    (journal after : List Entry) (item : Item) (entry : Entry)
    → Some (class, item) ≡ found_in id (plain_of trio journal)
    → next ≡ on_class class (removed id) trio
    → entry ≡ entry_of Cancelled line now class item by → after ≡ journal ++ entry ∷ []
    → plain_of next after ≡ cancelled now id line by (plain_of trio journal)
stored_found now id line class by trio next journal after item entry found_is next_is entry_is
    after_is =
    let cpu = plain_of trio journal in
    let base = of_class class (plains trio) in
    let same = (found_at id class item cpu (sym found_is)).same in
    stored class (removed id) trio next journal after entry next_is after_is
    ∙ (ap (λ e. changed class (removed id base) e cpu) entry_is
    ∙ (ap (λ k. changed class (removed k base) (entry_of Cancelled line now class item by) cpu)
    (sym same)
    ∙ ap (λ found. after_cancel found now line by cpu) found_is))

-- an item's number is that of a timer
pub id_fits : (class : Class) (item : Item) (trio : ByClass RoomyBase) (journal : List Entry)
    → IsConsistent (plain_of trio journal)
    → item_of item.id (of_class class trio).plain.items ≡ Some item → item.id < 2 ^ 16
id_fits class item trio journal consistent found =
    item_holds (λ i. i.id < 2 ^ 16) item.id (of_class class (plains trio)).items item
    (consistent.fits class).timers
    (subst (λ b. item_of item.id b.items ≡ Some item) (sym (plain_base class trio)) found)
