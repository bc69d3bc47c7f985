-- the bases of a CPU as plain data, and what each call makes of them
use Rattle.std.specs.Prelude.{ℕ, zero, suc, ◌+◌, ◌^◌, ◌<◌, ◌≤◌, List, [], ◌∷◌, ◌++◌}
use Rattle.std.specs.Prelude.{Option, Some, None, All, is_some, length, max, nat_lt}
use Rattle.std.specs.Prelude.{option_map, unwrap_or, if◌then◌else◌}
use Rattle.tm_base.specs.declared.names.TheConstants.{NEVER, TIME_LIMIT}
use Rattle.tm_base.specs.declared.names.Class.{Class}
use Rattle.tm_base.specs.declared.names.Class.TheVariants.{Pinned, Global, Deferrable}
use Rattle.tm_base.specs.declared.names.CpuId.{CpuId}
use Rattle.wheel_core.specs.declared.item.Item.{Item}
use Rattle.wheel_core.specs.PlainBase.{PlainBase, IsSound, added, empty_base, forwarded}
use Rattle.wheel_core.specs.PlainBase.{item_of, least, next_out, item_added, removed, taken}
use Rattle.cpu_bases.specs.declared.entry.Act.{Act}
use Rattle.cpu_bases.specs.declared.entry.Act.TheVariants as acts
use Rattle.cpu_bases.specs.declared.entry.Entry.{Entry}
use Rattle.cpu_bases.specs.declared.entry.NextEvents.{NextEvents}
use Rattle.cpu_bases.specs.ByClass.{ByClass, of_class, with_class}
use Rattle.cpu_bases.specs.Journals.{Agrees, EachMayFollow}

-- a plain base for each class (struct timer_base: BASE_LOCAL, BASE_GLOBAL, BASE_DEF), and the
-- journal of what was done to them
pub record CpuBases : Type 0 where
  pub bases : ByClass PlainBase
  pub journal : List Entry

-- the base of a class
abbrev pub base_of : Class → CpuBases → PlainBase
base_of class cpu = of_class class cpu.bases

-- nothing queued and nothing written, at the start of time
abbrev pub empty_bases : CpuBases
empty_bases = record {
  bases = record { pinned = empty_base; global = empty_base; deferrable = empty_base };
  journal = [];
}

-- ENTRIES: what an act on an item is written as
abbrev pub entry_of : Act → (line at : ℕ) → Class → Item → CpuId → Entry
entry_of act line at class item by = record {
  act = act;
  line = line;
  at = at;
  timer = record { 0 = item.id };
  class = class;
  expires = item.expires;
  wheel = item.wheel;
  job = item.job;
  arg = item.arg;
  by = by;
}

-- an entry that says that the base of a class was drained
abbrev pub ticked_entry : (at : ℕ) → Class → CpuId → Entry
ticked_entry at class by = record {
  act = acts.Ticked;
  line = 0;
  at = at;
  timer = record { 0 = 0 };
  class = class;
  expires = 0;
  wheel = at;
  job = 0;
  arg = 0;
  by = by;
}

-- the bases with one more entry in their journal
abbrev pub written : Entry → CpuBases → CpuBases
written entry cpu = record cpu { journal = cpu.journal ++ entry ∷ [] }

-- a change of the base of a class, and the entry that tells it
abbrev pub changed : Class → PlainBase → Entry → CpuBases → CpuBases
changed class base entry cpu = record {
  bases = with_class class base cpu.bases;
  journal = cpu.journal ++ entry ∷ [];
}

-- QUEUEING: the base of a class is forwarded to a time, and a timer is added to it
abbrev pub item_queued : (time : ℕ) → Class → (timer expires job arg : ℕ) → CpuBases → Item
item_queued time class timer expires job arg cpu =
    item_added (forwarded time (base_of class cpu)).clock timer expires job arg

-- QUEUEING, with its entry: the base of a class is forwarded to a time, and a timer is added
abbrev pub queued : Act → (line at time : ℕ) → Class → (timer expires job arg : ℕ) → CpuId
    → CpuBases → CpuBases
queued act line at time class timer expires job arg by cpu =
    changed class (added timer expires job arg (forwarded time (base_of class cpu)))
    (entry_of act line at class (item_queued time class timer expires job arg cpu) by) cpu

-- ARMING (__mod_timer), for which the base is forwarded to now
abbrev pub armed : (now : ℕ) → Class → (timer expires job arg line : ℕ) → CpuId
    → CpuBases → CpuBases
armed now class timer expires job arg line by cpu =
    queued acts.Armed line now now class timer expires job arg by cpu

-- moving in (migrate_timer_list), for which the base is forwarded to the next jiffy
abbrev pub moved_in : (now : ℕ) → Class → (timer expires job arg : ℕ) → CpuId
    → CpuBases → CpuBases
moved_in now class timer expires job arg by cpu =
    queued acts.MovedIn 0 now (now + 1) class timer expires job arg by cpu

-- LOOKING UP: the class and item of a queued timer
abbrev pub found_or : Class → Option Item → Option (Class × Item) → Option (Class × Item)
found_or class (Some item) others = Some (class, item)
found_or class None others = others

-- LOOKING UP: the class and item of a queued timer, none where it isn't queued
abbrev pub found_in : (timer : ℕ) → CpuBases → Option (Class × Item)
found_in timer cpu =
    found_or Pinned (item_of timer cpu.bases.pinned.items)
    (found_or Global (item_of timer cpu.bases.global.items)
    (found_or Deferrable (item_of timer cpu.bases.deferrable.items) None))

-- LOOKING UP: the class of a queued timer
abbrev pub class_in : (timer : ℕ) → CpuBases → Option Class
class_in timer cpu = option_map (λ found. found.0) (found_in timer cpu)

-- LOOKING UP: the item of a queued timer
abbrev pub item_in : (timer : ℕ) → CpuBases → Option Item
item_in timer cpu = option_map (λ found. found.1) (found_in timer cpu)

-- CANCELLING: the timer goes out of the base that it is in
abbrev pub after_cancel : Option (Class × Item) → (now line : ℕ) → CpuId → CpuBases → CpuBases
after_cancel None now line by cpu = cpu
after_cancel (Some (class, item)) now line by cpu =
    changed class (removed item.id (base_of class cpu))
    (entry_of acts.Cancelled line now class item by) cpu

-- CANCELLING (timer_delete): the timer goes out of the base that it is in, where it is queued
abbrev pub cancelled : (now timer line : ℕ) → CpuId → CpuBases → CpuBases
cancelled now timer line by cpu = after_cancel (found_in timer cpu) now line by cpu

-- HANDING OUT: the next due item goes out, or the base counts as drained
abbrev pub after_hand_out : Option Item → (now : ℕ) → Class → CpuId → CpuBases → CpuBases
after_hand_out None now class by cpu = written (ticked_entry now class by) cpu
after_hand_out (Some item) now class by cpu =
    changed class (taken now (base_of class cpu)) (entry_of acts.Handed 0 now class item by) cpu

-- HANDING OUT (__run_timers, expire_timers): the next due item of a class goes out, or the base
-- counts as drained
abbrev pub handed_out : (now : ℕ) → Class → CpuId → CpuBases → CpuBases
handed_out now class by cpu =
    after_hand_out (next_out now (base_of class cpu)) now class by cpu

-- a whole drain, of at most so many items: item by item as long as one is due, then `Ticked`
abbrev pub drained : (most now : ℕ) → Class → CpuId → CpuBases → CpuBases
drained zero now class by cpu = handed_out now class by cpu
drained (suc most) now class by cpu =
    let after = handed_out now class by cpu in
    if is_some (next_out now (base_of class cpu)) then drained most now class by after else after

-- MOVING OUT: the first item in arming order goes out
abbrev pub oldest_in : List Item → Option Item
oldest_in [] = None
oldest_in (item ∷ items) = Some item

-- MOVING OUT: this item goes out, where there is one, with its entry
abbrev pub after_move_out : Option Item → (now : ℕ) → Class → CpuId → CpuBases → CpuBases
after_move_out None now class by cpu = cpu
after_move_out (Some item) now class by cpu =
    changed class (removed item.id (base_of class cpu))
    (entry_of acts.MovedOut 0 now class item by) cpu

-- MOVING OUT (migrate_timer_list): the first item of a class in arming order goes out
abbrev pub moved_out : (now : ℕ) → Class → CpuId → CpuBases → CpuBases
moved_out now class by cpu = after_move_out (oldest_in (base_of class cpu).items) now class by cpu

-- FIRST EVENTS (fetch_next_timer_interrupt): the least wheel expiries of the pinned and the global
-- base, and the global one where it comes before the pinned one
abbrev pub first_expiry : Class → CpuBases → ℕ
first_expiry class cpu = unwrap_or (least (base_of class cpu).items) NEVER

-- FIRST EVENTS of a CPU (fetch_next_timer_interrupt)
abbrev pub events_of : CpuBases → NextEvents
events_of cpu =
    let pin = first_expiry Pinned cpu in
    let first_global = first_expiry Global cpu in
    record {
      pin = pin;
      first_global = first_global;
      next = if nat_lt first_global pin then first_global else NEVER;
    }

-- WHAT IS KEPT: a base's clock and items are in range, and no timer is queued twice
pub record BaseFits (base : PlainBase) : Type 0 where
  pub clock : base.clock < TIME_LIMIT
  pub sound : IsSound base.items
  pub timers : All (λ item. item.id < 2 ^ 16) base.items

-- what a CPU's bases keep, whatever times their calls are given
pub record IsConsistent (cpu : CpuBases) : Type 0 where
  pub each_may_follow : EachMayFollow [] cpu.journal
  pub agrees : (class : Class) → Agrees class (base_of class cpu).items cpu.journal
  pub fits : (class : Class) → BaseFits (base_of class cpu)
  pub in_time : All (λ entry. entry.wheel ≤ TIME_LIMIT) cpu.journal

-- a base's clock isn't past the next jiffy
abbrev pub NotAhead : (now : ℕ) → PlainBase → Type 0
NotAhead now base = base.clock ≤ now + 1

-- ROOM: for how many timers each base has memory, and for how many entries the journal has
pub record Room : Type 0 where
  pub timers : ℕ
  pub entries : ℕ

-- what a caller sees
pub record RoomyBases : Type 0 where
  pub plain : CpuBases
  pub room : Room

-- a change that takes no memory and gives none back
abbrev pub on_bases : (CpuBases → CpuBases) → RoomyBases → RoomyBases
on_bases change all = record all { plain = change all.plain }

-- how many timers are queued in the base that has most
abbrev pub most_queued : ByClass PlainBase → ℕ
most_queued bases =
    max (length bases.pinned.items)
    (max (length bases.global.items) (length bases.deferrable.items))

-- after room for so many more timers in each base and so many more entries was asked for
abbrev pub with_room : (timers entries : ℕ) → RoomyBases → RoomyBases
with_room timers entries all = record {
  plain = all.plain;
  room = record {
    timers = max all.room.timers (most_queued all.plain.bases + timers);
    entries = max all.room.entries (length all.plain.journal + entries);
  };
}

-- room for so many more timers in each base, and for so many more entries
pub record HasRoom (timers entries : ℕ) (all : RoomyBases) : Type 0 where
  pub in_bases : most_queued all.plain.bases + timers ≤ all.room.timers
  pub in_journal : length all.plain.journal + entries ≤ all.room.entries
