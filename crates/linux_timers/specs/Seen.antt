-- what was seen of timers and of the CPUs that run them
use Rattle.std.specs.Prelude.{ℕ, ◌==◌, ◌&&◌, nat_lt, List, [], Bool, true, false}
use Rattle.std.specs.Prelude.{Option, Some, None, is_some, find, position, if◌then◌else◌}
use Rattle.std.specs.Ordering.{nat_cmp}
use Rattle.std.specs.BTreeMap.{insert_entry, is_at}
use Rattle.std.specs.Map.{lookup}
use Rattle.tm_base.specs.declared.names.CpuId.{CpuId}
use Rattle.linux_lines.specs.declared.events.Arming.{Arming}
use Rattle.linux_seen.specs.Seen.{or_else, put_at}
use Rattle.linux_timers.specs.Bases.{is_jumbled, unknown_clocks}
use Rattle.linux_seen.specs.declared.seen.Run.TheVariants as runs
use Rattle.linux_timers.specs.declared.seen.Queued.{Queued}
use Rattle.linux_timers.specs.declared.seen.State.{State}
use Rattle.linux_timers.specs.declared.seen.State.TheVariants.{Unknown, Gone, At}
use Rattle.linux_timers.specs.declared.seen.Taken.{Taken}
use Rattle.linux_timers.specs.declared.seen.Taken.TheVariants.{Untaken, By, Several}
use Rattle.linux_timers.specs.declared.seen.TimerSeen.{TimerSeen}
use Rattle.linux_timers.specs.declared.seen.Runner.{Runner}

-- the timers, by their pointers in ascending order, and the CPUs
pub record TimerSight : Type 0 where
  pub timers : List (ℕ × TimerSeen)
  pub runners : List Runner

-- nothing is known
abbrev pub no_timers : TimerSight
no_timers = record { timers = []; runners = [] }

-- a timer of which nothing is known
abbrev pub unknown_timer : TimerSeen
unknown_timer = record { state = Unknown; taken = Untaken; at = None; by = None }

-- a CPU of which nothing is known
abbrev pub unknown_runner : CpuId → Runner
unknown_runner cpu =
    record { cpu = cpu; run = runs.Unknown; edge = 0; clocks = unknown_clocks }

-- what was seen of a timer
abbrev pub timer_at : TimerSight → ℕ → TimerSeen
timer_at s pointer = or_else (lookup (is_at (nat_cmp pointer)) s.timers) unknown_timer

-- what was seen of a CPU
abbrev pub runner_at : TimerSight → CpuId → Runner
runner_at s cpu = or_else (find (λ r. r.cpu.0 == cpu.0) s.runners) (unknown_runner cpu)

-- a timer as it is seen now, in place of what was
abbrev pub put_timer : TimerSight → ℕ → TimerSeen → TimerSight
put_timer s pointer t = record s { timers = insert_entry nat_cmp s.timers pointer t }

-- a CPU likewise
abbrev pub put_runner : TimerSight → Runner → TimerSight
put_runner s r =
    record s { runners = put_at (position (λ q. q.cpu.0 == r.cpu.0) s.runners) s.runners r }

-- ---- the order of lines

-- a timer of which nothing is known but when its last lines were written, by several CPUs
abbrev pub jumbled : Option ℕ → TimerSeen
jumbled at = record { state = Unknown; taken = Several; at = at; by = None }

-- a timer once a line of this CPU at this time tells of it
unfoldable pub written : TimerSeen → CpuId → Option ℕ → TimerSeen
written t cpu at =
    if is_jumbled t.at t.by cpu at then jumbled at else record t { at = at; by = Some cpu }

-- ---- a timer's lines

-- where an armed timer is queued
abbrev pub queued_of : Arming → Queued
queued_of a = record { bucket = a.bucket; home = a.cpu; class = a.class }

-- a timer that was armed
unfoldable pub armed_after : TimerSeen → Arming → TimerSeen
armed_after t a = if is_some t.by then record t { state = At (queued_of a) } else t

-- the removal's CPU was in no expiry and at no edge of its softirq since, so its run may be to come
unfoldable pub is_open : TimerSight → Taken → Bool
is_open s Untaken = false
is_open s Several = true
is_open s (By cpu line state) = nat_lt (runner_at s cpu).edge line

-- how a timer was queued that is removed; one that was in no bucket was armed unseen
abbrev pub left_from : State → State
left_from Unknown = Unknown
left_from Gone = Unknown
left_from (At q) = At q

-- a removal after one whose run may be to come: by which of them it runs isn't known
unfoldable pub taken_again : Taken → CpuId → ℕ → Taken
taken_again Untaken cpu line = Several
taken_again Several cpu line = Several
taken_again (By other first state) cpu line =
    if other.0 == cpu.0 then By cpu line Unknown else Several

-- a removal
abbrev pub taken_by : Bool → TimerSeen → CpuId → ℕ → Taken
taken_by true t cpu line = taken_again t.taken cpu line
taken_by false t cpu line = By cpu line (left_from t.state)

-- a timer that was removed
unfoldable pub removed_after : TimerSight → TimerSeen → CpuId → ℕ → TimerSeen
removed_after s t cpu line =
    if is_some t.by then
    record t { state = Gone; taken = taken_by (is_open s t.taken) t cpu line } else t

-- a removal by which this CPU may run the timer
unfoldable pub is_out : TimerSight → Taken → CpuId → Bool
is_out s Untaken cpu = false
is_out s Several cpu = true
is_out s (By other line state) cpu =
    other.0 == cpu.0 && nat_lt (runner_at s cpu).edge line

-- how a timer was queued before its removal
abbrev pub state_taken : Taken → State
state_taken Untaken = Unknown
state_taken Several = Unknown
state_taken (By cpu line state) = state

-- a timer that runs without a removal: it is in no bucket, or the removal wasn't seen
abbrev pub state_left : State → State
state_left Unknown = Unknown
state_left Gone = Gone
state_left (At q) = Unknown

-- how the timer was queued that a CPU runs
unfoldable pub state_run : TimerSight → TimerSeen → CpuId → State
state_run s t cpu =
    if (runner_at s cpu).edge == 0 then Unknown
    else if is_out s t.taken cpu then state_taken t.taken
    else state_left t.state

-- the state once it runs: it may have been armed anew since its removal
unfoldable pub state_behind : TimerSight → TimerSeen → CpuId → State
state_behind s t cpu = if is_out s t.taken cpu then t.state else Unknown

-- a timer that runs
unfoldable pub run_after : TimerSight → TimerSeen → CpuId → TimerSeen
run_after s t cpu = record t { state = state_behind s t cpu; taken = Untaken }
