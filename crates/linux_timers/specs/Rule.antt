-- the rule of timers over the lines of a trace
use Rattle.std.specs.Prelude.{ℕ, ◌==◌, ◌&&◌, ◌||◌, nat_le, Bool, true, false}
use Rattle.std.specs.Prelude.{Option, Some, None, if◌then◌else◌}
use Rattle.tm_base.specs.declared.names.CpuId.{CpuId}
use Rattle.tm_base.specs.declared.names.Class.{Class}
use Rattle.tm_base.specs.declared.names.Class.TheVariants.{Deferrable, Global, Pinned}
use Rattle.linux_lines.specs.declared.events.CpuEvent.{CpuEvent}
use Rattle.linux_lines.specs.declared.events.CpuKind.{CpuKind}
use Rattle.linux_lines.specs.declared.events.CpuKind.TheVariants.{Online, Awake, Asleep, Offline}
use Rattle.linux_lines.specs.declared.events.CpuKind.TheVariants.{NewTimer, StillAsleep}
use Rattle.linux_lines.specs.declared.events.CpuKind.TheVariants.{RunElsewhere}
use Rattle.linux_lines.specs.declared.events.Happening.{Happening}
use Rattle.linux_lines.specs.declared.events.Happening.TheVariants.{GroupMade, GroupJoined}
use Rattle.linux_lines.specs.declared.events.Happening.TheVariants.{CpuJoined, Exchanged, CpuTold}
use Rattle.linux_lines.specs.declared.events.Happening.TheVariants.{Updated, Handling}
use Rattle.linux_lines.specs.declared.events.Arming.{Arming}
use Rattle.linux_lines.specs.declared.events.Expiry.{Expiry}
use Rattle.linux_lines.specs.declared.events.TimerEvent.{TimerEvent}
use Rattle.linux_lines.specs.declared.events.TimerEvent.TheVariants.{Armed, Removed, Ran, Softirq}
use Rattle.linux_lines.specs.declared.events.Line.{Line}
use Rattle.linux_lines.specs.declared.events.Line.TheVariants.{Remark, Loss, Foreign, Told}
use Rattle.linux_lines.specs.declared.events.Line.TheVariants.{OfTimer}
use Rattle.linux_seen.specs.declared.seen.Run.{Run}
use Rattle.linux_seen.specs.declared.seen.Run.TheVariants as runs
use Rattle.linux_seen.specs.Counts.{counted}
use Rattle.linux_timers.specs.declared.rule.TheConstants.{TIMER_SOFTIRQ}
use Rattle.linux_timers.specs.declared.seen.Queued.{Queued}
use Rattle.linux_timers.specs.declared.seen.State.{State}
use Rattle.linux_timers.specs.declared.seen.State.TheVariants.{Unknown, Gone, At}
use Rattle.linux_timers.specs.Seen.{TimerSight, armed_after, no_timers, put_runner, put_timer}
use Rattle.linux_timers.specs.Seen.{removed_after, run_after, runner_at, state_run, timer_at}
use Rattle.linux_timers.specs.Seen.{written}
use Rattle.linux_timers.specs.Bases.{clocks_after, least_of}
use Rattle.linux_timers.specs.Wheel.{arming_fits}

-- ---- a run

-- the CPU runs the timers of this one
abbrev pub runs_for : Run → CpuId → Bool
runs_for runs.Unknown home = true
runs_for runs.Own home = false
runs_for (runs.Of cpu) home = cpu.0 == home.0

-- a CPU that isn't a timer's own may run it: a pinned or deferrable one never, a global one in a
-- run for its CPU
abbrev pub may_run : Option Class → Run → CpuId → Bool
may_run None run home = true
may_run (Some Pinned) run home = false
may_run (Some Deferrable) run home = false
may_run (Some Global) run home = runs_for run home

-- the timer runs on its CPU, or on one that may run it
abbrev pub place_fits : Queued → CpuId → Run → Bool
place_fits q cpu run = q.home.0 == cpu.0 || may_run q.class run q.home

-- a run of a timer that was so queued: not before its base has come to its bucket
unfoldable pub state_fits : State → Expiry → CpuId → Run → Bool
state_fits Unknown e cpu run = true
state_fits Gone e cpu run = false
state_fits (At q) e cpu run = nat_le q.bucket e.clock && place_fits q cpu run

-- how the timer of a run was queued
unfoldable pub state_of_run : TimerSight → CpuId → Option ℕ → Expiry → State
state_of_run s cpu at e = state_run s (written (timer_at s e.timer) cpu at) cpu

-- a run: the base's clock is no later than the time
unfoldable pub run_fits : TimerSight → CpuId → Option ℕ → Expiry → Bool
run_fits s cpu at e =
    nat_le e.clock e.jiffies && state_fits (state_of_run s cpu at e) e cpu (runner_at s cpu).run

-- ---- a line

-- the least clock that the base of an armed timer is known to have
abbrev pub least_known : TimerSight → CpuId → Option ℕ → Arming → ℕ
least_known s cpu at a = least_of (runner_at s a.cpu).clocks a.class cpu at

-- an event of a timer keeps the rule
unfoldable pub event_fits : TimerSight → CpuId → Option ℕ → TimerEvent → Bool
event_fits s cpu at (Armed a) = arming_fits (least_known s cpu at a) a
event_fits s cpu at (Removed timer) = true
event_fits s cpu at (Ran e) = run_fits s cpu at e
event_fits s cpu at (Softirq vec) = true

-- THE CPU whose line breaks the rule, if it does
unfoldable pub timer_fault : TimerSight → Line → Option CpuId
timer_fault s Remark = None
timer_fault s Loss = None
timer_fault s (Foreign cpu odd) = None
timer_fault s (Told cpu at h) = None
timer_fault s (OfTimer cpu at e) = if event_fits s cpu at e then None else Some cpu

-- a CPU that begins or ends to run timers, or another softirq
unfoldable pub at_softirq : TimerSight → ℕ → CpuId → ℕ → TimerSight
at_softirq s line cpu vec =
    if vec == TIMER_SOFTIRQ
    then put_runner s (record (runner_at s cpu) { run = runs.Own; edge = line }) else s

-- a CPU that is in the middle of its softirq
unfoldable pub at_expiry : TimerSight → ℕ → CpuId → TimerSight
at_expiry s line cpu = put_runner s (record (runner_at s cpu) { edge = line })

-- a base has come to the jiffy after the expiry that it runs (__run_timers)
unfoldable pub base_learned : TimerSight → CpuId → Option ℕ → Queued → ℕ → TimerSight
base_learned s cpu at q clock =
    put_runner s
    (record (runner_at s q.home) {
      clocks = clocks_after (runner_at s q.home).clocks q.class cpu at (counted clock);
    })

-- .. where it is known which one
abbrev pub state_learned : TimerSight → CpuId → Option ℕ → State → ℕ → TimerSight
state_learned s cpu at Unknown clock = s
state_learned s cpu at Gone clock = s
state_learned s cpu at (At q) clock = base_learned s cpu at q clock

-- a timer that runs is learned
unfoldable pub timer_run : TimerSight → CpuId → Option ℕ → Expiry → TimerSight
timer_run s cpu at e =
    put_timer s e.timer (run_after s (written (timer_at s e.timer) cpu at) cpu)

-- what is known after a run
unfoldable pub after_expiry : TimerSight → ℕ → CpuId → Option ℕ → Expiry → TimerSight
after_expiry s line cpu at e =
    state_learned (at_expiry (timer_run s cpu at e) line cpu) cpu at (state_of_run s cpu at e)
    e.clock

-- .. after an event of a timer
unfoldable pub timers_learned : TimerSight → ℕ → CpuId → Option ℕ → TimerEvent → TimerSight
timers_learned s line cpu at (Armed a) =
    put_timer s a.timer (armed_after (written (timer_at s a.timer) cpu at) a)
timers_learned s line cpu at (Removed timer) =
    put_timer s timer (removed_after s (written (timer_at s timer) cpu at) cpu line)
timers_learned s line cpu at (Ran e) = after_expiry s line cpu at e
timers_learned s line cpu at (Softirq vec) = at_softirq s line cpu vec

-- .. after an event of a CPU: the run of another one's timers begins
unfoldable pub run_begun : CpuKind → TimerSight → CpuId → CpuEvent → TimerSight
run_begun RunElsewhere s cpu t = put_runner s (record (runner_at s cpu) { run = runs.Of t.cpu })
run_begun Online s cpu t = s
run_begun Awake s cpu t = s
run_begun Asleep s cpu t = s
run_begun Offline s cpu t = s
run_begun NewTimer s cpu t = s
run_begun StillAsleep s cpu t = s

-- .. after an event of timer migration
unfoldable pub timers_told : TimerSight → CpuId → Happening → TimerSight
timers_told s cpu (CpuTold t) = run_begun t.kind s cpu t
timers_told s cpu (GroupMade place) = s
timers_told s cpu (GroupJoined child j) = s
timers_told s cpu (CpuJoined joined j) = s
timers_told s cpu (Exchanged e) = s
timers_told s cpu (Updated u) = s
timers_told s cpu (Handling group) = s

-- WHAT IS KNOWN of timers after a line
unfoldable pub timers_after : TimerSight → ℕ → Line → TimerSight
timers_after s line Remark = s
timers_after s line Loss = no_timers
timers_after s line (Foreign cpu odd) = s
timers_after s line (Told cpu at h) = timers_told s cpu h
timers_after s line (OfTimer cpu at e) = timers_learned s line cpu at e
