-- three bases with their room, as the code keeps them (no public clause cites it)
use Rattle.std.specs.Prelude.{ℕ, ◌≤◌, List, Option, Some, None}
use Rattle.tm_base.specs.declared.names.Class.{Class}
use Rattle.wheel_core.specs.declared.item.Item.{Item}
use Rattle.wheel_core.specs.PlainBase.{PlainBase, RoomyBase, on_plain, removed}
use Rattle.cpu_bases.specs.declared.entry.Entry.{Entry}
use Rattle.cpu_bases.specs.ByClass.{ByClass, of_class, with_class}
use Rattle.cpu_bases.specs.CpuBases.{CpuBases, IsConsistent}

-- the bases without their room, and with a journal
abbrev pub plains : ByClass RoomyBase → ByClass PlainBase
plains trio = record {
  pinned = trio.pinned.plain;
  global = trio.global.plain;
  deferrable = trio.deferrable.plain;
}

-- three bases without their room, with a journal
abbrev pub plain_of : ByClass RoomyBase → List Entry → CpuBases
plain_of trio journal = record { bases = plains trio; journal = journal }

-- a change of the base of a class
abbrev pub on_class : Class → (PlainBase → PlainBase) → ByClass RoomyBase → ByClass RoomyBase
on_class class change trio = with_class class (on_plain change (of_class class trio)) trio

-- a timer went out of the base of its class, or none did
abbrev pub without_found : (id : ℕ) → Option (Class × Item) → ByClass RoomyBase → ByClass RoomyBase
without_found id None trio = trio
without_found id (Some (class, item)) trio = on_class class (removed id) trio

-- an item went out of a base, or none did
abbrev pub without_oldest : Option Item → RoomyBase → RoomyBase
without_oldest None base = base
without_oldest (Some item) base = on_plain (removed item.id) base

-- three bases without the oldest item of a class, or as they were where none goes out
abbrev pub without_item : Class → Option Item → ByClass RoomyBase → ByClass RoomyBase
without_item class out trio = with_class class (without_oldest out (of_class class trio)) trio

-- each base has memory for so many timers
pub record HasCapacity (timers : ℕ) (trio : ByClass RoomyBase) : Type 0 where
  pub pinned : timers ≤ trio.pinned.capacity
  pub global : timers ≤ trio.global.capacity
  pub deferrable : timers ≤ trio.deferrable.capacity

-- what a CPU's bases always keep
pub record IsKept (trio : ByClass RoomyBase) (journal : List Entry) (timers : ℕ) : Type 0 where
  pub consistent : IsConsistent (plain_of trio journal)
  pub room : HasCapacity timers trio
