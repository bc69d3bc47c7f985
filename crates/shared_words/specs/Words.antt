-- the words of locks, slots and timers
use Rattle.std.specs.Prelude.{ℕ, ◌+◌, ◌*◌, ◌-◌, ◌/◌, ◌%◌, ◌^◌, ◌<◌, ◌==◌, Bool, true, false}
use Rattle.std.specs.Prelude.{Option, Some, None, if◌then◌else◌}
use Rattle.tm_base.specs.declared.names.Class.{Class}
use Rattle.tm_base.specs.declared.names.Class.TheVariants.{Pinned, Global, Deferrable}
use Rattle.tm_base.specs.declared.names.CpuId.{CpuId}
use Rattle.event_queue.specs.declared.event.Event.{Event}
use Rattle.event_queue.specs.Word.{slot_word}
use Rattle.shared_words.specs.declared.spot.Spot.{Spot}
use Rattle.shared_words.specs.declared.spot.TheConstants.{CLASSES}

-- a CPU by its number
abbrev pub cpu_number : CpuId → ℕ
cpu_number c = c.0

-- LOCKS: 0, or one more than the number of the CPU whose walk holds it
abbrev pub lock_word : Option ℕ → ℕ
lock_word None = 0
lock_word (Some c) = 1 + c

-- the CPU whose walk holds a lock with this word
abbrev pub holder_of : ℕ → Option ℕ
holder_of word = if word == 0 then None else Some ((word - 1) % 2 ^ 16)

-- SLOTS: an empty one may keep the bit by which an event is marked as ignored; it says no more
abbrev pub word_of_slot : (stray : Bool) → Option Event → ℕ
word_of_slot true None = 2 ^ 58
word_of_slot false None = 0
word_of_slot stray (Some e) = slot_word (Some e)

-- TIMERS: 0, or one more than the number of the base, three for each CPU
abbrev pub class_number : Class → ℕ
class_number Pinned = 0
class_number Global = 1
class_number Deferrable = 2

-- and back: the class of a number
abbrev pub class_of : ℕ → Class
class_of number =
    if number == 0 then Pinned else if number == 1 then Global else Deferrable

-- a CPU's number that a word has room for
abbrev pub FitsSpot : Spot → Type 0
FitsSpot s = s.cpu.0 < 2 ^ 16

-- the word of a timer that is queued there, or nowhere
abbrev pub spot_word : Option Spot → ℕ
spot_word None = 0
spot_word (Some s) = 1 + CLASSES * s.cpu.0 + class_number s.class

-- and back: where a timer with this word is queued
abbrev pub spot_of : ℕ → Option Spot
spot_of word = if word == 0 then None else Some (record {
  cpu = record { 0 = (word - 1) / CLASSES % 2 ^ 16 };
  class = class_of ((word - 1) % CLASSES);
})
