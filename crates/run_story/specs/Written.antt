-- what each CPU has written in a moment: the entries of journals that are new, each by one CPU
use Rattle.std.specs.Prelude.{◌≡◌, ◌⊎◌, ℕ, ◌<◌, ◌≤◌, List, Some, None, length, slice_get}
use Rattle.std.specs.Prelude.{is_some, take, true}
use Rattle.cpu_bases.specs.CpuBases.{CpuBases, class_in, empty_bases}
use Rattle.cpu_bases.specs.declared.entry.Act.TheVariants.{Armed}
use Rattle.cpu_bases.specs.declared.entry.Entry.{Entry}
use Rattle.cpu_bases.specs.Laws.{HasEnd, is_end}
use Rattle.cpu_bases.specs.Replay.{replay}
use Rattle.core_world.specs.World.{World, cpu_of}

-- an entry that a CPU wrote: in whose journal it stands, and where
pub record WrittenEntry : Type 0 where
  pub home : ℕ
  pub place : ℕ
  pub entry : Entry

-- the journal of a CPU
abbrev pub world_journal_of : World → ℕ → List Entry
world_journal_of w c = (cpu_of w c).bases.journal

-- what CPU c wrote as number i stands where it says, is new since the moment began, and was written
-- at its time, where it arms in its own journal; and of that place nothing else was written
pub record StandsWritten (o w : World) (writer : ℕ → ℕ → ℕ × ℕ) (c i : ℕ) (x : WrittenEntry)
    : Type 0 where
  pub stands : slice_get (world_journal_of w x.home) x.place ≡ Some x.entry
  pub later : length (world_journal_of o x.home) ≤ x.place
  pub at : x.entry.at ≡ o.clock
  pub by : x.entry.by.0 ≡ c
  pub armed : x.entry.act ≡ Armed → x.home ≡ c
  pub once : writer x.home x.place ≡ (c, i)

-- a new entry was written by a CPU that there is
pub record WasWritten (cpus : ℕ) (wrote : ℕ → List WrittenEntry) (at : ℕ × ℕ) (x : WrittenEntry)
    : Type 0
  where
    pub in_range : at.0 < cpus
    pub among : slice_get (wrote at.0) at.1 ≡ Some x

-- WRITTEN: what each CPU wrote stands in the journals, each new entry was written by one CPU, and
-- what a CPU wrote into one journal stands there in its order; of each place `writer` tells which
-- CPU wrote its entry, and as which of its own
pub record AreWritten (o w : World) (wrote : ℕ → List WrittenEntry) : Type 0 where
  pub writer : ℕ → ℕ → ℕ × ℕ
  pub stand : (c i : ℕ) (x : WrittenEntry) → slice_get (wrote c) i ≡ Some x →
      StandsWritten o w writer c i x
  pub all : (d place : ℕ) (e : Entry) → slice_get (world_journal_of w d) place ≡ Some e →
      length (world_journal_of o d) ≤ place →
      WasWritten (length o.cpus) wrote (writer d place)
      (record { home = d; place = place; entry = e })
  pub order : (c i j : ℕ) (x y : WrittenEntry) → slice_get (wrote c) i ≡ Some x →
      slice_get (wrote c) j ≡ Some y → x.home ≡ y.home → i < j → x.place < y.place

-- the bases of a CPU as its first so many entries make them
abbrev pub bases_after : List Entry → ℕ → CpuBases
bases_after journal count = record {
  bases = replay (take count journal) empty_bases.bases;
  journal = take count journal;
}

-- QUEUED: the timer was queued on CPU d after some number of d's entries, not fewer than when the
-- moment began
pub record WasQueuedSince (o w : World) (timer d : ℕ) : Type 0 where
  pub count : ℕ
  pub since : length (world_journal_of o d) ≤ count
  pub within : count ≤ length (world_journal_of w d)
  pub queued : is_some (class_in timer (bases_after (world_journal_of w d) count)) ≡ true

-- a new entry is an end of the timer
pub record HasTimerEnded (o w : World) (timer : ℕ) : Type 0 where
  pub cpu : ℕ
  pub place : ℕ
  pub ending : Entry
  pub stands : slice_get (world_journal_of w cpu) place ≡ Some ending
  pub later : length (world_journal_of o cpu) ≤ place
  pub timer_is : ending.timer.0 ≡ timer
  pub ends : is_end ending.act ≡ true

-- NOT QUEUED: each arming of the timer among these entries has an end; and the timer was queued
-- nowhere when the moment began, or has a new end
pub record WasNowhere (o w : World) (timer : ℕ) (earlier : List WrittenEntry) : Type 0 where
  pub armed : (i : ℕ) (x : WrittenEntry) → slice_get earlier i ≡ Some x → x.entry.act ≡ Armed →
      x.entry.timer.0 ≡ timer → HasEnd (world_journal_of w x.home) x.place x.entry
  pub opening :
      ((d : ℕ) → class_in timer (cpu_of o d).bases ≡ None) ⊎ HasTimerEnded o w timer
