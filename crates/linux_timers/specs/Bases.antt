-- what was seen of the clocks of a CPU's bases
use Rattle.std.specs.Prelude.{ℕ, ◌==◌, ◌&&◌, not, max, Bool, true, false}
use Rattle.std.specs.Prelude.{Option, Some, None, is_some, if◌then◌else◌}
use Rattle.tm_base.specs.declared.names.CpuId.{CpuId}
use Rattle.tm_base.specs.declared.names.Class.{Class}
use Rattle.tm_base.specs.declared.names.Class.TheVariants.{Deferrable, Global, Pinned}
use Rattle.linux_seen.specs.Tree.{same_pointer}
use Rattle.linux_timers.specs.declared.bases.BaseClock.{BaseClock}
use Rattle.linux_timers.specs.declared.bases.Clocks.{Clocks}

-- it is this CPU
abbrev pub is_cpu : Option CpuId → CpuId → Bool
is_cpu None cpu = false
is_cpu (Some other) cpu = other.0 == cpu.0

-- what was written by one CPU at a time, and by another at that same time: either may be the first
unfoldable pub is_jumbled : (at : Option ℕ) → (by : Option CpuId) → CpuId → (now : Option ℕ) → Bool
is_jumbled at by cpu now = is_some now && same_pointer at now && not (is_cpu by cpu)

-- nothing is known of a base's clock
abbrev pub unknown_clock : BaseClock
unknown_clock = record { least = 0; at = None; by = None }

-- nothing is known of the clocks of a CPU's bases
abbrev pub unknown_clocks : Clocks
unknown_clocks = record {
  pinned = unknown_clock;
  global = unknown_clock;
  deferrable = unknown_clock;
}

-- the least clock that a base is known to have at a line of this CPU at this time
unfoldable pub least_at : BaseClock → CpuId → Option ℕ → ℕ
least_at b cpu at = if is_jumbled b.at b.by cpu at then 0 else b.least

-- the clock of one of the bases
abbrev pub clock_of : Clocks → Class → BaseClock
clock_of clocks Pinned = clocks.pinned
clock_of clocks Global = clocks.global
clock_of clocks Deferrable = clocks.deferrable

-- .. where it is known which
abbrev pub least_of : Clocks → Option Class → CpuId → Option ℕ → ℕ
least_of clocks None cpu at = 0
least_of clocks (Some class) cpu at = least_at (clock_of clocks class) cpu at

-- who wrote the lines of the last time, where it was one CPU
abbrev pub writer_of : Bool → CpuId → Option CpuId
writer_of true cpu = None
writer_of false cpu = Some cpu

-- a base is known to have come to a clock, by a line of this CPU at this time
unfoldable pub clock_after : BaseClock → CpuId → Option ℕ → ℕ → BaseClock
clock_after b cpu at clock = record {
  least = max b.least clock;
  at = at;
  by = writer_of (is_jumbled b.at b.by cpu at) cpu;
}

-- .. one of a CPU's bases
abbrev pub clocks_by : Clocks → Class → BaseClock → Clocks
clocks_by clocks Pinned clock = record clocks { pinned = clock }
clocks_by clocks Global clock = record clocks { global = clock }
clocks_by clocks Deferrable clock = record clocks { deferrable = clock }

-- .. where it is known which
unfoldable pub clocks_after : Clocks → Option Class → CpuId → Option ℕ → ℕ → Clocks
clocks_after clocks None cpu at clock = clocks
clocks_after clocks (Some class) cpu at clock =
    clocks_by clocks class (clock_after (clock_of clocks class) cpu at clock)
