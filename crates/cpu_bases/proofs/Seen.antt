-- what the bases that a caller sees say of the code's
use Rattle.std.proofs.Common.{◌≡◌, ℕ, ◌<◌, length, ap, subst, sym, ◌∙◌, arith, None, List}
use Rattle.tm_base.specs.declared.names.Class.{Class}
use Rattle.tm_base.specs.declared.names.Class.TheVariants.{Pinned, Global, Deferrable}
use Rattle.tm_base.specs.declared.names.CpuId.{CpuId}
use Rattle.wheel_core.specs.PlainBase.{PlainBase, RoomyBase}
use Rattle.cpu_bases.specs.declared.entry.Entry.{Entry}
use Rattle.cpu_bases.specs.ByClass.{ByClass, of_class}
use Rattle.cpu_bases.specs.CpuBases.{CpuBases, RoomyBases, after_move_out, base_of, moved_out}
use Rattle.cpu_bases.specs.CpuBases.{on_bases, oldest_in}
use Rattle.cpu_bases.specs.Journals.{RoomyJournal}
use Rattle.cpu_bases.specs.Trio.{HasCapacity, plain_of, plains, without_item}
use Rattle.cpu_bases.proofs.Classes.{with_itself}
use Rattle.cpu_bases.proofs.Steps.{plain_base}

-- the code's bases as they are seen
abbrev pub seen_as : ByClass RoomyBase → (timers : ℕ) → RoomyJournal → RoomyBases
seen_as trio timers journal = record {
  plain = plain_of trio journal.entries;
  room = record { timers = timers; entries = journal.capacity };
}

room_by : (class : Class) (trio : ByClass RoomyBase) (timers : ℕ) → HasCapacity timers trio
    → length (of_class class (plains trio)).items < timers
    → length (of_class class trio).plain.items < (of_class class trio).capacity
room_by Pinned trio timers room low = omega (arith, room.pinned, low)
room_by Global trio timers room low = omega (arith, room.global, low)
room_by Deferrable trio timers room low = omega (arith, room.deferrable, low)

module _ (trio : ByClass RoomyBase) (timers : ℕ) (journal : RoomyJournal) (all : RoomyBases)
    (seen : seen_as trio timers journal ≡ all) where
  pub base_seen : (class : Class) → (of_class class trio).plain ≡ base_of class all.plain
  base_seen class =
      sym (plain_base class trio) ∙ ap (λ (b : RoomyBases). base_of class b.plain) seen

  pub entry_fits : length all.plain.journal < all.room.entries
      → length journal.entries < journal.capacity
  entry_fits low =
      subst (λ (b : RoomyBases). length b.plain.journal < b.room.entries) (sym seen) low

  pub room_fits : (class : Class) → HasCapacity timers trio
      → length (base_of class all.plain).items < all.room.timers
      → length (of_class class trio).plain.items < (of_class class trio).capacity
  room_fits class room low =
      room_by class trio timers room
      (subst (λ (b : RoomyBases). length (base_of class b.plain).items < b.room.timers) (sym seen)
      low)

  pub became_so : (change : CpuBases → CpuBases) (next : ByClass RoomyBase) (after : RoomyJournal)
      → plain_of next after.entries ≡ change (plain_of trio journal.entries)
      → after.capacity ≡ journal.capacity
      → seen_as next timers after ≡ on_bases change all
  became_so change next after is same =
      (λ i. record { plain = is i; room = record { timers = timers; entries = same i } })
      ∙ ap (on_bases change) seen

-- nothing is there to move out
pub none_stored : (now : ℕ) (class : Class) (by : CpuId) (trio next : ByClass RoomyBase)
    (journal : List Entry) → None ≡ oldest_in (of_class class trio).plain.items
    → next ≡ without_item class None trio
    → plain_of next journal ≡ moved_out now class by (plain_of trio journal)
none_stored now class by trio next journal none next_is =
    ap (λ t. plain_of t journal) (next_is ∙ with_itself class trio)
    ∙ ap (λ o. after_move_out o now class by (plain_of trio journal))
    (none ∙ ap (λ (b : PlainBase). oldest_in b.items) (sym (plain_base class trio)))
