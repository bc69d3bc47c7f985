-- the lines of covers
use Rattle.std.specs.Prelude.{ℕ, ◌+◌, ◌==◌, ◌&&◌, ◌||◌, not, nat_lt, nat_le, Bool, false}
use Rattle.std.specs.Prelude.{Option, Some, None, if◌then◌else◌}
use Rattle.std.specs.List.{list_any}
use Rattle.std.specs.FinSet as set
use Rattle.tm_base.specs.declared.names.Class.TheVariants as classes
use Rattle.tm_base.specs.declared.names.CpuId.{CpuId}
use Rattle.tm_report.specs.declared.lines.ShownCover.{ShownCover}
use Rattle.tm_report.specs.declared.lines.ShownCover.TheVariants as shown
use Rattle.tm_script.specs.declared.syntax.Script.{Script}
use Rattle.view_story.specs.declared.faults.Fault.{Fault}
use Rattle.view_story.specs.declared.faults.Fault.TheVariants as faults
use Rattle.view_story.specs.declared.seen.CpuSeen.{CpuSeen}
use Rattle.view_story.specs.declared.seen.Queued.{Queued}
use Rattle.view_story.specs.declared.seen.Stage.TheVariants as stages
use Rattle.view_story.specs.declared.seen.TimerSeen.{TimerSeen}
use Rattle.view_story.specs.Sight.{StorySight}
use Rattle.view_story.specs.Seen.{cpu_at, with_cpu}
use Rattle.view_story.specs.Places.{is_queued_in, ops_at}
use Rattle.view_story.specs.Runs.{is_op_after}

-- A CPU HAS TO BE COVERED: it is online and idle, and global timers are queued on it
abbrev pub needs_cover : CpuSeen → Bool
needs_cover c = c.state.online && c.state.idle && nat_lt 0 c.globals

-- .. from a CPU on
abbrev pub needs_from : (from : ℕ) → CpuSeen → Bool
needs_from from c = nat_le from c.cpu.0 && needs_cover c

-- .. and before another
abbrev pub needs_between : (from to : ℕ) → CpuSeen → Bool
needs_between from to c = nat_le from c.cpu.0 && nat_lt c.cpu.0 to && needs_cover c

-- some CPU from this one on has no cover yet; nothing is known where a timer isn't clear
abbrev pub some_uncovered : StorySight → (from : ℕ) → Bool
some_uncovered s from = (s.point.unclear == 0) && list_any (needs_from from) s.cpus

-- some CPU between two
abbrev pub some_passed : StorySight → (from to : ℕ) → Bool
some_passed s from to = (s.point.unclear == 0) && list_any (needs_between from to) s.cpus

-- the wheel expiry of a timer that may be queued, or 0
abbrev pub queued_wheel_in : Option Queued → ℕ
queued_wheel_in None = 0
queued_wheel_in (Some q) = q.wheel

-- the wheel expiry of a timer, or 0
abbrev pub wheel_of : TimerSeen → ℕ
wheel_of t = queued_wheel_in t.place

-- a global timer of a CPU has this wheel expiry
abbrev pub has_wheel : CpuId → (wheel : ℕ) → TimerSeen → Bool
has_wheel cpu wheel t = is_queued_in cpu classes.Global t && (wheel_of t == wheel)

-- .. or an earlier one
abbrev pub has_earlier : CpuId → (wheel : ℕ) → TimerSeen → Bool
has_earlier cpu wheel t = is_queued_in cpu classes.Global t && nat_lt (wheel_of t) wheel

-- a wheel expiry is the first of a CPU's global timers
abbrev pub is_first_global : StorySight → CpuId → (wheel : ℕ) → Bool
is_first_global s cpu wheel =
    list_any (has_wheel cpu wheel) s.timers && not (list_any (has_earlier cpu wheel) s.timers)

-- a CPU of the hierarchy is active
abbrev pub is_active : Script → CpuSeen → Bool
is_active script c =
    c.state.online && not c.state.idle && not (set.contains script.isolated c.cpu.0)

-- a wakeup may be that of an idle CPU: the one that is known, or any
abbrev pub may_be_wakeup : CpuSeen → (now at : ℕ) → Bool
may_be_wakeup c now at =
    c.state.online && c.state.idle && (nat_le c.quiet now || (c.quiet == at))

-- a CPU may wake for others: it is in the hierarchy, and there no CPU is active
abbrev pub wakes_for : Script → StorySight → CpuId → Bool
wakes_for script s waker =
    not (set.contains script.isolated waker.0) && not (list_any (is_active script) s.cpus)

-- WHO MAY ANSWER for a timer of a CPU: an active CPU, where the timer's CPU doesn't wake in time by
-- itself; or a CPU that wakes in time, itself or where none is active
abbrev pub answers : Script → StorySight → CpuId → (wheel : ℕ) → ShownCover → Bool
answers script s cpu wheel (shown.Migrator level place migrator) =
    is_active script (cpu_at s migrator)
    && not (set.contains script.isolated cpu.0)
    && (nat_le (cpu_at s cpu).quiet s.point.time || nat_lt wheel (cpu_at s cpu).quiet)
answers script s cpu wheel (shown.Wake waker at) =
    nat_le at wheel
    && may_be_wakeup (cpu_at s waker) s.point.time at
    && ((waker.0 == cpu.0) || wakes_for script s waker)

-- an operation of the moment has no answer yet
abbrev pub is_owed : Script → StorySight → Bool
is_owed script s = list_any (is_op_after s.point) (ops_at script s.point)

-- timers are queued on a CPU, if there is one
abbrev pub has_timers : StorySight → Option CpuId → Bool
has_timers s None = false
has_timers s (Some cpu) = nat_lt 0 (cpu_at s cpu).timers

-- a CPU that went offline has timers still
abbrev pub is_unmoved : StorySight → Bool
is_unmoved s = has_timers s s.point.dead

-- WHAT IS WRONG with the line of a cover
unfoldable pub cover_fault : Script → StorySight → CpuId → (wheel : ℕ) → ShownCover → Option Fault
cover_fault script s cpu wheel cover =
    if is_owed script s then Some faults.Skipped
    else if is_unmoved s then Some faults.Unmoved
    else if nat_lt cpu.0 s.point.covered then Some faults.Order
    else if some_passed s s.point.covered cpu.0 then Some faults.Uncovered
    else if not s.point.listed || not (cpu_at s cpu).state.online
    || not (cpu_at s cpu).state.idle
    || ((s.point.unclear == 0) && ((cpu_at s cpu).globals == 0)) then Some faults.NoCover
    else if ((s.point.unclear == 0) && not (is_first_global s cpu wheel))
    || not (answers script s cpu wheel cover) then Some faults.Answer
    else None

-- the wakeup that a cover shows
unfoldable pub learned_wakeup : StorySight → ShownCover → StorySight
learned_wakeup s (shown.Migrator level place cpu) = s
learned_wakeup s (shown.Wake cpu at) = with_cpu s (record (cpu_at s cpu) { quiet = at })

-- the next number of a CPU or a timer
abbrev pub next_number : ℕ → ℕ
next_number n = if nat_lt n 65535 then n + 1 else n

-- what the line of a cover tells
unfoldable pub learned_cover : StorySight → CpuId → ShownCover → StorySight
learned_cover s cpu cover =
    record (learned_wakeup s cover) {
      point = record (learned_wakeup s cover).point {
        stage = stages.Covers;
        covered = next_number cpu.0;
      };
    }
