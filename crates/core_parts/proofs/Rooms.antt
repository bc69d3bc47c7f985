-- calls on a CPU's timers, after room was asked for
use Rattle.std.proofs.Common.{◌≡◌, ℕ, ◌<◌, length, ap, sym, subst, ◌∙◌, arith}
use Rattle.tm_base.specs.declared.names.Class.{Class}
use Rattle.tm_base.specs.declared.names.Class.TheVariants.{Pinned, Global, Deferrable}
use Rattle.core_world.specs.cpu_bases.CpuBases.{CpuBases, RoomyBases, base_of, on_bases, with_room}
use Rattle.core_world.specs.Steps.{with_bases}
use Rattle.core_world.specs.World.{CpuRecord}
use Rattle.core_parts.specs.Status.{CpuStatus, record_of}

room_of : (class : Class) (all : RoomyBases)
    → length (base_of class all.plain).items < (with_room 1 1 all).room.timers
room_of Pinned all = omega arith
room_of Global all = omega arith
room_of Deferrable all = omega arith

pub queue_room : (class : Class) (old roomy : RoomyBases) → roomy ≡ with_room 1 1 old
    → length (base_of class roomy.plain).items < roomy.room.timers
queue_room class old roomy is =
    subst (λ (b : RoomyBases). length (base_of class b.plain).items < b.room.timers) (sym is)
    (room_of class old)

pub entry_room : (timers : ℕ) (old roomy : RoomyBases) → roomy ≡ with_room timers 1 old
    → length roomy.plain.journal < roomy.room.entries
entry_room timers old roomy is =
    subst (λ (b : RoomyBases). length b.plain.journal < b.room.entries) (sym is) (omega arith)

module _ (timers : ℕ) (status : CpuStatus) (y : CpuRecord) (old roomy : RoomyBases)
    (seen : record_of status old.plain ≡ y) (is : roomy ≡ with_room timers 1 old) where
  pub still : record_of status roomy.plain ≡ y
  still = ap (λ (b : RoomyBases). record_of status b.plain) is ∙ seen

  pub same_bases : roomy.plain ≡ y.bases
  same_bases = ap (λ (b : RoomyBases). b.plain) is ∙ ap (λ (z : CpuRecord). z.bases) seen

  pub done_so : (change : CpuBases → CpuBases) (new : RoomyBases) → new ≡ on_bases change roomy
      → record_of status new.plain ≡ with_bases y (change y.bases)
  done_so change new after =
      ap (λ (b : RoomyBases). record_of status b.plain) after
      ∙ (ap (λ (b : RoomyBases). record_of status (change b.plain)) is
      ∙ ap (λ (z : CpuRecord). with_bases z (change z.bases)) seen)
