-- how late the timers of other CPUs are run
use Rattle.std.specs.Prelude.{ℕ, ◌-◌, ◌==◌, ◌&&◌, ◌||◌, not, nat_lt, nat_le, Bool, false}
use Rattle.std.specs.Prelude.{Option, Some, None, is_some, is_none, if◌then◌else◌}
use Rattle.std.specs.List.{list_any}
use Rattle.tm_base.specs.declared.names.CpuId.{CpuId}
use Rattle.linux_lines.specs.declared.events.TheConstants.{NO_EXPIRY}
use Rattle.linux_lines.specs.declared.events.CpuEvent.{CpuEvent}
use Rattle.linux_lines.specs.declared.events.CpuKind.{CpuKind}
use Rattle.linux_lines.specs.declared.events.CpuKind.TheVariants.{Online, Awake, Asleep, Offline}
use Rattle.linux_lines.specs.declared.events.CpuKind.TheVariants.{NewTimer, StillAsleep}
use Rattle.linux_lines.specs.declared.events.CpuKind.TheVariants.{RunElsewhere}
use Rattle.linux_lines.specs.declared.events.Happening.TheVariants.{GroupMade, GroupJoined}
use Rattle.linux_lines.specs.declared.events.Happening.TheVariants.{CpuJoined, Exchanged, CpuTold}
use Rattle.linux_lines.specs.declared.events.Happening.TheVariants.{Updated, Handling}
use Rattle.linux_lines.specs.declared.events.Line.{Line}
use Rattle.linux_lines.specs.declared.events.Line.TheVariants.{Remark, Loss, Foreign, Told}
use Rattle.linux_lines.specs.declared.events.Line.TheVariants.{OfTimer}
use Rattle.linux_runs.specs.declared.runs.Runs.{Runs}
use Rattle.linux_runs.specs.declared.runs.TheConstants.{LATE_1_MS, LATE_4_MS, LATE_10_MS}
use Rattle.linux_runs.specs.declared.runs.TheConstants.{LATE_100_MS}
use Rattle.linux_seen.specs.declared.seen.Word.{Word}
use Rattle.linux_seen.specs.declared.seen.Look.{Look}
use Rattle.linux_seen.specs.declared.seen.CpuSeen.{CpuSeen}
use Rattle.linux_seen.specs.Counts.{counted, counted_if}
use Rattle.linux_seen.specs.Seen.{Sight, cpu_at, group_at}
use Rattle.linux_seen.specs.Words.{named_by, same_number}
use Rattle.linux_seen.specs.Tree.{same_pointer}
use Rattle.linux_seen.specs.Rests.{known_word}

-- no run is counted
abbrev pub no_runs : Runs
no_runs = record {
  in_1_ms = 0;
  in_4_ms = 0;
  in_10_ms = 0;
  in_100_ms = 0;
  later = 0;
  unsure = 0;
  astray = 0;
  itself = 0;
  queued = 0;
  stopped = 0;
  told = 0;
  past = 0;
}

-- how long an event has been due at this time, where both are known
abbrev pub lateness : Option ℕ → Option ℕ → Option ℕ
lateness None event = None
lateness (Some now) None = None
lateness (Some now) (Some expiry) = if nat_le expiry now then Some (now - expiry) else None

-- one run more, by how late it is
abbrev pub counted_late : Runs → Option ℕ → Runs
counted_late r None = record r { unsure = counted r.unsure }
counted_late r (Some time) =
    if nat_lt time LATE_1_MS then record r { in_1_ms = counted r.in_1_ms }
    else if nat_lt time LATE_4_MS then record r { in_4_ms = counted r.in_4_ms }
    else if nat_lt time LATE_10_MS then record r { in_10_ms = counted r.in_10_ms }
    else if nat_lt time LATE_100_MS then record r { in_100_ms = counted r.in_100_ms }
    else record r { later = counted r.later }

-- another child than this one leads a group of this word
abbrev pub word_astray : Option Word → Option ℕ → Bool
word_astray None bit = false
word_astray (Some word) bit =
    if is_none bit || word.migrator == 0 then false
    else not (same_number (named_by word.migrator) bit)

-- a CPU came to a group which another child leads than the one from which it came
abbrev pub is_astray : Sight → Option Look → Bool
is_astray s None = false
is_astray s (Some look) = word_astray (known_word (group_at s look.group)) look.bit

-- two numbers are known, and the first is lower
abbrev pub is_before : Option ℕ → Option ℕ → Bool
is_before None b = false
is_before (Some n) None = false
is_before (Some n) (Some m) = nat_lt n m

-- the other CPU is a lower child of the CPU's leaf, with an event of the same expiry
abbrev pub is_lower : CpuSeen → CpuSeen → Bool
is_lower c d =
    is_some c.leaf && is_some c.event && same_pointer c.leaf d.leaf && same_pointer c.event d.event
    && is_before d.bit c.bit

-- one run more
unfoldable pub elsewhere : Runs → Sight → CpuId → Option ℕ → CpuEvent → Runs
elsewhere r s own at t =
    record (counted_late r (lateness at (cpu_at s t.cpu).event)) {
      astray = counted_if (is_astray s (cpu_at s own).looks)
          (counted_late r (lateness at (cpu_at s t.cpu).event)).astray;
      itself = counted_if (t.cpu.0 == own.0)
          (counted_late r (lateness at (cpu_at s t.cpu).event)).itself;
      queued = counted_if (list_any (is_lower (cpu_at s t.cpu)) s.cpus)
          (counted_late r (lateness at (cpu_at s t.cpu).event)).queued;
    }

-- the walk of a CPU that falls asleep ended at a group that it found asleep: the exchange there had
-- left a migrator, which was gone when the group was updated
abbrev pub stopped_by : Runs → CpuSeen → Runs
stopped_by r c = record r { stopped = counted_if c.slept r.stopped }

-- an expiry that is told at this time is past
abbrev pub is_past : ℕ → ℕ → Bool
is_past now expiry = nat_lt expiry now

-- an expiry that a CPU tells as it falls asleep, where there is one and the line has a time
abbrev pub told_by : Runs → Option ℕ → ℕ → Runs
told_by r None expiry = r
told_by r (Some now) expiry = record r {
  told = counted_if (not (expiry == NO_EXPIRY)) r.told;
  past = counted_if (is_past now expiry) r.past;
}

-- the runs after an event of a CPU
abbrev pub run_counted : CpuKind → Runs → Sight → CpuId → Option ℕ → CpuEvent → Runs
run_counted RunElsewhere r s own at t = elsewhere r s own at t
run_counted Online r s own at t = r
run_counted Awake r s own at t = r
run_counted Asleep r s own at t = told_by (stopped_by r (cpu_at s own)) at t.expiry
run_counted Offline r s own at t = stopped_by r (cpu_at s own)
run_counted NewTimer r s own at t = r
run_counted StillAsleep r s own at t = r

-- THE RUNS after a line, by what was seen before it
unfoldable pub runs_after : Runs → Sight → Line → Runs
runs_after r s Remark = r
runs_after r s Loss = r
runs_after r s (Foreign cpu odd) = r
runs_after r s (Told cpu at (GroupMade place)) = r
runs_after r s (Told cpu at (GroupJoined child j)) = r
runs_after r s (Told cpu at (CpuJoined joined j)) = r
runs_after r s (Told cpu at (Exchanged e)) = r
runs_after r s (Told cpu at (CpuTold t)) = run_counted t.kind r s cpu at t
runs_after r s (Told cpu at (Updated u)) = r
runs_after r s (Told cpu at (Handling group)) = r
runs_after r s (OfTimer cpu at e) = r
