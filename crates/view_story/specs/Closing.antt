-- the lines that close a moment in which a CPU went offline, and those behind the last moment
use Rattle.std.specs.Prelude.{ℕ, ◌==◌, ◌&&◌, ◌||◌, not, nat_lt, nat_le, Bool, true, false}
use Rattle.std.specs.Prelude.{Option, Some, None, is_some, is_none, if◌then◌else◌}
use Rattle.std.specs.List.{list_any}
use Rattle.std.specs.FinSet as set
use Rattle.tm_base.specs.declared.names.Class.{Class}
use Rattle.tm_base.specs.declared.names.CpuId.{CpuId}
use Rattle.tm_base.specs.declared.names.TimerId.{TimerId}
use Rattle.tm_base.specs.declared.names.TheConstants.{NEVER}
use Rattle.tm_script.specs.declared.syntax.Script.{Script}
use Rattle.view_story.specs.declared.closing.MovedLine.{MovedLine}
use Rattle.view_story.specs.declared.faults.Fault.{Fault}
use Rattle.view_story.specs.declared.faults.Fault.TheVariants as faults
use Rattle.view_story.specs.declared.places.Asked.{Asked}
use Rattle.view_story.specs.declared.seen.CpuSeen.{CpuSeen}
use Rattle.view_story.specs.declared.seen.Point.{Point}
use Rattle.view_story.specs.declared.seen.Queued.{Queued}
use Rattle.view_story.specs.declared.seen.Stage.{Stage}
use Rattle.view_story.specs.declared.seen.Stage.TheVariants as stages
use Rattle.view_story.specs.declared.seen.TimerSeen.{TimerSeen}
use Rattle.view_story.specs.Sight.{StorySight}
use Rattle.view_story.specs.Seen.{cpu_at, seen_or, timer_at}
use Rattle.view_story.specs.Places.{ahead, arming_level_in, is_same_class, rank_of, requeued}
use Rattle.view_story.specs.Covers.{is_active, is_owed, next_number}
use Rattle.view_story.specs.Operations.{with_state}

-- a CPU of the hierarchy is online
abbrev pub is_seen_online : Script → CpuSeen → Bool
is_seen_online script c = c.state.online && not (set.contains script.isolated c.cpu.0)

-- .. and below another
abbrev pub is_lower_online : Script → (than : CpuId) → CpuSeen → Bool
is_lower_online script than c = nat_lt c.cpu.0 than.0 && is_seen_online script c

-- active, in the hierarchy, and below another
abbrev pub is_lower_active : Script → (than : CpuId) → CpuSeen → Bool
is_lower_active script than c = nat_lt c.cpu.0 than.0 && is_active script c

-- behind an `offline` line of this CPU, if one stands before
abbrev pub handed_by : Script → StorySight → (cpu to : CpuId) → (leaving : Option CpuId)
    → Option Fault
handed_by script s cpu to None = Some faults.Order
handed_by script s cpu to (Some gone) =
    if not (gone.0 == cpu.0) then Some faults.Order
    else if set.contains script.isolated cpu.0
    || not (is_seen_online script (cpu_at s to))
    || list_any (is_lower_online script to) s.cpus then Some faults.Control
    else None

-- WHAT IS WRONG with the line of a first event that is handed on: it stands behind the `offline`
-- line of its CPU, and the other is the lowest that is online
unfoldable pub handed_fault : Script → StorySight → (cpu to : CpuId) → Option Fault
handed_fault script s cpu to = handed_by script s cpu to s.point.leaving

-- a first event was handed on
unfoldable pub learned_handed : StorySight → (to : CpuId) → StorySight
learned_handed s to =
    record s { point = record s.point { leaving = None; handed = Some to } }

-- the CPU to which it was handed is active, if there is one
abbrev pub settled_by : StorySight → Option CpuId → StorySight
settled_by s None = s
settled_by s (Some to) =
    record (with_state s to true false NEVER) { point = record s.point { handed = None } }

-- .. behind all operations of the moment
unfoldable pub settled : StorySight → StorySight
settled s = settled_by s s.point.handed

-- A CPU TAKES OVER timers: the lowest active one of the hierarchy, or where none is active the
-- lowest that is online
unfoldable pub may_control : Script → StorySight → CpuId → Bool
may_control script s cpu =
    if is_active script (cpu_at s cpu) then not (list_any (is_lower_active script cpu) s.cpus)
    else is_seen_online script (cpu_at s cpu)
    && not (list_any (is_active script) s.cpus)
    && not (list_any (is_lower_online script cpu) s.cpus)

-- for the timers of a CPU that went offline
abbrev pub control_of : Script → StorySight → CpuId → (dead : CpuId) → Option Fault
control_of script s cpu dead =
    if ((cpu_at s dead).timers == 0) || not (may_control script s cpu) then Some faults.Control
    else None

-- by where the lines stand, and which CPU went offline
abbrev pub control_by : Script → StorySight → CpuId → Stage → (dead : Option CpuId) → Option Fault
control_by script s cpu stages.Tellers (Some dead) = control_of script s cpu dead
control_by script s cpu stages.Tellers None = Some faults.Order
control_by script s cpu stages.Moves dead = Some faults.Order
control_by script s cpu stages.Covers dead = Some faults.Order
control_by script s cpu stages.Lefts dead = Some faults.Order
control_by script s cpu stages.Over dead = Some faults.Order

-- WHAT IS WRONG with the line of the CPU that takes over
unfoldable pub control_fault : Script → StorySight → CpuId → Option Fault
control_fault script s cpu =
    if is_owed script s then Some faults.Skipped
    else control_by script s cpu s.point.stage s.point.dead

-- the point behind it
abbrev pub controlled : Point → CpuId → Point
controlled p cpu = record p {
  stage = stages.Moves;
  control = Some cpu;
  moved_rank = 0;
  moved_turn = 0;
}

-- who takes over is active
unfoldable pub learned_control : StorySight → CpuId → StorySight
learned_control s cpu =
    record (with_state s cpu true false NEVER) { point = controlled s.point cpu }

-- a timer moves behind the one that moved last: pinned, global, deferrable, and in arming order
abbrev pub moves_behind : Point → Queued → Bool
moves_behind p q =
    nat_lt p.moved_rank (rank_of q.class)
    || ((rank_of q.class == p.moved_rank) && nat_lt p.moved_turn q.turn)

-- the CPUs of a line are these, if there are two
abbrev pub ends_by : MovedLine → (dead control : Option CpuId) → Bool
ends_by m None control = false
ends_by m (Some dead) None = false
ends_by m (Some dead) (Some control) = (dead.0 == m.from.0) && (control.0 == m.to.0)

-- .. the one that went offline and the one that takes over
abbrev pub are_ends : Point → MovedLine → Bool
are_ends p m = ends_by m p.dead p.control

-- what a moved timer asks, and what its line shows
abbrev pub asked_by : MovedLine → Queued → Asked
asked_by m q = record { expires = q.expires; wheel = m.wheel }

-- the level at which it is added to a base that is forwarded to the next jiffy
abbrev pub moved_level : StorySight → MovedLine → Queued → Option ℕ
moved_level s m q = arming_level_in s m.to q.class (ahead s.point.time 1) (asked_by m q)

-- what is wrong with a timer that moves from where it is queued
unfoldable pub place_moved_fault : StorySight → MovedLine → Queued → Option Fault
place_moved_fault s m q =
    if not (q.home.0 == m.from.0) then Some faults.Moved
    else if not (moves_behind s.point q) then Some faults.Turn
    else if is_none (moved_level s m q) then Some faults.Wheel
    else None

-- of a timer that is queued so; nothing is known of one that isn't clear
abbrev pub moved_by : StorySight → MovedLine → (clear : Bool) → Option Queued → Option Fault
moved_by s m clear None = if clear then Some faults.Moved else None
moved_by s m clear (Some q) = if clear then place_moved_fault s m q else None

-- timers may move now
abbrev pub is_moving : Stage → Bool
is_moving stages.Moves = true
is_moving stages.Tellers = false
is_moving stages.Covers = false
is_moving stages.Lefts = false
is_moving stages.Over = false

-- WHAT IS WRONG with the line of a moved timer
unfoldable pub moved_fault : StorySight → MovedLine → Option Fault
moved_fault s m =
    if not (is_moving s.point.stage) then Some faults.Order
    else if not (are_ends s.point m) then Some faults.Moved
    else moved_by s m (timer_at s m.timer).clear (timer_at s m.timer).place

-- the timer as it is queued behind its move
abbrev pub moved_to : StorySight → MovedLine → (turn : ℕ) → Queued → Queued
moved_to s m turn q = record q {
  home = m.to;
  wheel = m.wheel;
  level = seen_or (moved_level s m q) 0;
  turn = turn;
}

-- which one moved last
abbrev pub with_moved : StorySight → Queued → StorySight
with_moved s q =
    record s { point = record s.point { moved_rank = rank_of q.class; moved_turn = q.turn } }

-- of a timer that is queued so
abbrev pub learned_moved_by : StorySight → MovedLine → (turn : ℕ) → Option Queued → StorySight
learned_moved_by s m turn None = s
learned_moved_by s m turn (Some q) =
    with_moved
    (requeued s m.timer (Some (moved_to s m turn q)) m.to
    (record { in_order = (timer_at s m.timer).clear; settles = false })) q

-- a timer was moved
unfoldable pub learned_moved : StorySight → MovedLine → (turn : ℕ) → StorySight
learned_moved s m turn = learned_moved_by s m turn (timer_at s m.timer).place

-- a timer before this one, from another on, is queued and not told as left
abbrev pub is_untold : (from to : ℕ) → TimerSeen → Bool
is_untold from to t =
    nat_le from t.timer.0 && nat_lt t.timer.0 to && t.clear && is_some t.place

-- queued so; nothing is known of a timer that isn't clear
abbrev pub is_left_by : CpuId → Class → (wheel : ℕ) → (clear : Bool) → Option Queued → Bool
is_left_by cpu class wheel clear None = not clear
is_left_by cpu class wheel clear (Some q) =
    not clear || ((q.home.0 == cpu.0) && is_same_class q.class class && (q.wheel == wheel))

-- a timer is queued so
abbrev pub is_left_queued : TimerSeen → CpuId → Class → (wheel : ℕ) → Bool
is_left_queued t cpu class wheel = is_left_by cpu class wheel t.clear t.place

-- WHAT IS WRONG with the line of a timer that is left
unfoldable pub left_fault : StorySight → TimerId → CpuId → Class → (wheel : ℕ) → Option Fault
left_fault s timer cpu class wheel =
    if nat_lt timer.0 s.point.left then Some faults.Order
    else if list_any (is_untold s.point.left timer.0) s.timers then Some faults.Untold
    else if not (is_left_queued (timer_at s timer) cpu class wheel) then Some faults.Left
    else None

-- a timer was told as left
unfoldable pub learned_left : StorySight → TimerId → StorySight
learned_left s timer = record s { point = record s.point { left = next_number timer.0 } }

-- WHAT IS WRONG with the last line
unfoldable pub end_fault : Script → StorySight → (now : ℕ) → Option Fault
end_fault script s now =
    if not (now == script.end) then Some faults.NotTheEnd
    else if list_any (is_untold s.point.left 65535) s.timers then Some faults.Untold
    else None
