-- the lines that answer operations
use Rattle.std.specs.Prelude.{ℕ, ◌==◌, ◌&&◌, ◌||◌, not, nat_lt, Bool, true, false}
use Rattle.std.specs.Prelude.{List, find, Option, Some, None, is_some, is_none, if◌then◌else◌}
use Rattle.std.specs.List.{list_any}
use Rattle.std.specs.FinSet as set
use Rattle.tm_base.specs.declared.names.Class.{Class}
use Rattle.tm_base.specs.declared.names.Class.TheVariants as classes
use Rattle.tm_base.specs.declared.names.CpuId.{CpuId}
use Rattle.tm_base.specs.declared.names.TimerId.{TimerId}
use Rattle.tm_base.specs.declared.names.TheConstants.{NEVER}
use Rattle.tm_script.specs.declared.syntax.Op.{Op}
use Rattle.tm_script.specs.declared.syntax.Script.{Script}
use Rattle.tm_script.specs.declared.syntax.What.{What}
use Rattle.tm_script.specs.declared.syntax.What.TheVariants as whats
use Rattle.view_story.specs.declared.faults.Fault.{Fault}
use Rattle.view_story.specs.declared.faults.Fault.TheVariants as faults
use Rattle.view_story.specs.declared.operations.Answer.{Answer}
use Rattle.view_story.specs.declared.operations.Answer.TheVariants as answers
use Rattle.view_story.specs.declared.places.Asked.{Asked}
use Rattle.view_story.specs.declared.seen.CpuSeen.{CpuSeen}
use Rattle.view_story.specs.declared.seen.Point.{Point}
use Rattle.view_story.specs.declared.seen.Queued.{Queued}
use Rattle.view_story.specs.declared.seen.State.{State}
use Rattle.view_story.specs.declared.seen.TimerSeen.{TimerSeen}
use Rattle.view_story.specs.Sight.{StorySight}
use Rattle.view_story.specs.Seen.{cpu_at, opening_of, seen_or, timer_at, up, with_cpu}
use Rattle.view_story.specs.Places.{ahead, arming_level_in, is_contested, ops_at, others_act}
use Rattle.view_story.specs.Places.{requeued}
use Rattle.view_story.specs.Places.{fit_of, is_same_class}
use Rattle.view_story.specs.Runs.{is_op_after}
use Rattle.view_story.specs.Covers.{is_active}

-- an operation of this CPU that comes behind the one that was answered last
abbrev pub comes_next : Point → CpuId → Op → Bool
comes_next p cpu op = (op.cpu.0 == cpu.0) && is_op_after p op

-- an operation is to be answered before another
abbrev pub is_owed_above : Point → Op → Op → Bool
is_owed_above p answered op =
    is_op_after p op
    && (if p.play then nat_lt op.line answered.line else nat_lt op.cpu.0 answered.cpu.0)

-- that operation, where none is to be answered before
abbrev pub next_in : Point → List Op → Option Op → Option Op
next_in p ops None = None
next_in p ops (Some op) = if list_any (is_owed_above p op) ops then None else Some op

-- THE OPERATION THAT A LINE ANSWERS: the next of its CPU, where none of a lower CPU is left; in the
-- order of `play` the next of all
unfoldable pub answered_op : Script → StorySight → CpuId → Option Op
answered_op script s cpu =
    next_in s.point (ops_at script s.point)
    (find (comes_next s.point cpu) (ops_at script s.point))

-- refused where the CPU is offline or idle
abbrev pub by_active : State → ℕ
by_active state = if not state.online then 3 else if state.idle then 1 else 0

-- REFUSALS by the state of the CPU, by number, or 0: 1 it is idle, 2 active, 3 offline, 4 online
abbrev pub refusal : What → State → ℕ
refusal (whats.Arm timer class delay job arg) state = by_active state
refusal (whats.Cancel timer) state = by_active state
refusal whats.Idle state = by_active state
refusal whats.Offline state = by_active state
refusal whats.Wake state =
    if not state.online then 3 else if not state.idle then 2 else 0
refusal whats.Online state = if state.online then 4 else 0

-- another CPU of the hierarchy is online
abbrev pub is_other_online : Script → (own : CpuId) → CpuSeen → Bool
is_other_online script own c =
    not (c.cpu.0 == own.0) && c.state.online && not (set.contains script.isolated c.cpu.0)

-- a CPU is the last of the hierarchy that is online
abbrev pub is_last_online : Script → StorySight → CpuId → Bool
is_last_online script s cpu =
    not (set.contains script.isolated cpu.0)
    && not (list_any (is_other_online script cpu) s.cpus)

-- it goes offline
abbrev pub is_offline : What → Bool
is_offline whats.Offline = true
is_offline (whats.Arm timer class delay job arg) = false
is_offline (whats.Cancel timer) = false
is_offline whats.Idle = false
is_offline whats.Wake = false
is_offline whats.Online = false

-- the number of the refusal of an operation but for timers that are queued, or 0
unfoldable pub number_of : Script → StorySight → Op → ℕ
number_of script s op =
    if (refusal op.what (cpu_at s op.cpu).state == 0) && is_offline op.what
    && is_last_online script s op.cpu then 5
    else refusal op.what (cpu_at s op.cpu).state

-- queued on a CPU
abbrev pub is_at_home : CpuId → (clear : Bool) → Option Queued → Bool
is_at_home cpu clear None = false
is_at_home cpu clear (Some q) = clear && (q.home.0 == cpu.0)

-- a timer is, as the lines tell
abbrev pub is_on : TimerSeen → CpuId → Bool
is_on t cpu = is_at_home cpu t.clear t.place

-- a timer is queued nowhere, as the lines tell
abbrev pub is_nowhere : TimerSeen → Bool
is_nowhere t = t.clear && is_none t.place

-- a fault where this doesn't hold
abbrev pub unless : Bool → Fault → Option Fault
unless holds fault = if holds then None else Some fault

-- queued on a CPU, not deferrable, with an earlier wheel expiry
abbrev pub sooner_at : CpuId → (than : ℕ) → Option Queued → Bool
sooner_at cpu than None = false
sooner_at cpu than (Some q) =
    (q.home.0 == cpu.0) && not (is_same_class q.class classes.Deferrable) && nat_lt q.wheel than

-- a timer is
abbrev pub is_sooner : CpuId → (than : ℕ) → TimerSeen → Bool
is_sooner cpu than t = sooner_at cpu than t.place

-- queued on a CPU, pinned, with an earlier wheel expiry
abbrev pub pinned_sooner_at : CpuId → (than : ℕ) → Option Queued → Bool
pinned_sooner_at cpu than None = false
pinned_sooner_at cpu than (Some q) =
    (q.home.0 == cpu.0) && is_same_class q.class classes.Pinned && nat_lt q.wheel than

-- a timer is
abbrev pub is_pinned_sooner : CpuId → (than : ℕ) → TimerSeen → Bool
is_pinned_sooner cpu than t = pinned_sooner_at cpu than t.place

-- some timer of a CPU that isn't deferrable is due before a time
abbrev pub some_sooner : StorySight → CpuId → (than : ℕ) → Bool
some_sooner s cpu than = list_any (is_sooner cpu than) s.timers

-- some pinned one is
abbrev pub some_pinned_sooner : StorySight → CpuId → (than : ℕ) → Bool
some_pinned_sooner s cpu than = list_any (is_pinned_sooner cpu than) s.timers

-- THE FIRST EVENT of a CPU: none is before, and one is at that time, or there is none
abbrev pub is_first_event : StorySight → CpuId → (first : ℕ) → Bool
is_first_event s cpu first =
    not (some_sooner s cpu first) && ((first == NEVER) || some_sooner s cpu (up first))

-- .. of its pinned timers
abbrev pub is_first_pinned : StorySight → CpuId → (first : ℕ) → Bool
is_first_pinned s cpu first =
    not (some_pinned_sooner s cpu first)
    && ((first == NEVER) || some_pinned_sooner s cpu (up first))

-- OPEN: the events of a CPU may be others than the lines so far tell, where other CPUs act in the
-- same moment, where it slept as the moment began, and where a timer isn't clear
abbrev pub is_open : Script → StorySight → CpuId → Bool
is_open script s cpu =
    nat_lt 0 s.point.unclear
    || others_act script s cpu
    || (not s.point.play && (opening_of (cpu_at s cpu) s.point.time).idle)

-- another CPU of the hierarchy is active
abbrev pub is_other_active : Script → (own : CpuId) → CpuSeen → Bool
is_other_active script own c = not (c.cpu.0 == own.0) && is_active script c

-- A WAKEUP FITS a CPU that goes idle: where another CPU of the hierarchy stays active it is its
-- first pinned event; where it is the last no later than its first event, and where isolated that
-- event
abbrev pub fits_wakeup : Script → StorySight → CpuId → (until : ℕ) → Bool
fits_wakeup script s cpu until =
    if set.contains script.isolated cpu.0 then is_first_event s cpu until
    else if list_any (is_other_active script cpu) s.cpus then is_first_pinned s cpu until
    else not (some_sooner s cpu until)

-- what is wrong with going idle
abbrev pub idle_fault : Script → StorySight → CpuId → (until : ℕ) → Option Fault
idle_fault script s cpu until =
    if is_open script s cpu then None
    else if some_sooner s cpu (ahead s.point.time 2) then Some faults.Soon
    else unless (fits_wakeup script s cpu until) faults.Wakeup

-- what is wrong with staying
abbrev pub stay_fault : Script → StorySight → CpuId → (first : ℕ) → Option Fault
stay_fault script s cpu first =
    if nat_lt (ahead s.point.time 1) first then Some faults.Late
    else if is_open script s cpu then None
    else unless (is_first_event s cpu first) faults.First

-- what is wrong with an arming
abbrev pub arm_fault : Script → StorySight → CpuId → TimerId → Class → Asked → Option Fault
arm_fault script s cpu timer class asked =
    if not (is_nowhere (timer_at s timer)) && not (is_contested script s timer cpu)
    then Some faults.StillQueued
    else unless (is_some (arming_level_in s cpu class s.point.time asked)) faults.Wheel

-- the timer that an arming shows
abbrev pub armed_fault : Script → StorySight → CpuId → TimerId → Class → (delay : ℕ) → TimerId
    → Class
    → (wheel : ℕ) → Option Fault
armed_fault script s cpu timer class delay shown told wheel =
    if not (timer.0 == shown.0) || not (is_same_class class told) then Some faults.NoOperation
    else arm_fault script s cpu timer class
    (record { expires = ahead s.point.time delay; wheel = wheel })

-- what is wrong with a cancelling
abbrev pub cancelled_fault : Script → StorySight → CpuId → (timer shown : TimerId) → (home : CpuId)
    → Option Fault
cancelled_fault script s cpu timer shown home =
    if not (timer.0 == shown.0) then Some faults.NoOperation
    else unless (is_on (timer_at s timer) home || is_contested script s timer cpu)
    faults.NotQueuedThere

-- .. with one that found nothing
abbrev pub none_fault : Script → StorySight → CpuId → (timer shown : TimerId) → Option Fault
none_fault script s cpu timer shown =
    if not (timer.0 == shown.0) then Some faults.NoOperation
    else unless (is_nowhere (timer_at s timer) || is_contested script s timer cpu)
    faults.StillQueued

-- what is wrong with an answer that isn't a refusal, by what the operation does
abbrev pub done_by : What → Answer → Script → StorySight → CpuId → Option Fault
done_by (whats.Arm timer class delay job arg) (answers.Armed shown told wheel) script s cpu =
    armed_fault script s cpu timer class delay shown told wheel
done_by (whats.Cancel timer) (answers.Cancelled shown home) script s cpu =
    cancelled_fault script s cpu timer shown home
done_by (whats.Cancel timer) (answers.NotQueued shown) script s cpu =
    none_fault script s cpu timer shown
done_by whats.Idle (answers.Idle until) script s cpu = idle_fault script s cpu until
done_by whats.Idle (answers.Stay first) script s cpu = stay_fault script s cpu first
done_by whats.Wake answers.Woke script s cpu = None
done_by whats.Offline answers.WentOffline script s cpu = None
done_by whats.Online answers.CameOnline script s cpu = None
done_by what answer script s cpu = Some faults.NoOperation

-- of an operation
unfoldable pub done_fault : Script → StorySight → Op → Answer → Option Fault
done_fault script s op answer = done_by op.what answer script s op.cpu

-- what is wrong with a refusal of this number
abbrev pub refused_fault : Op → (expected line number : ℕ) → Option Fault
refused_fault op expected line number =
    if not (op.line == line) then Some faults.NoOperation
    else unless (not (expected == 0) && (expected == number)) faults.MayNotRefuse

-- what is wrong with a refusal since the timer is queued
abbrev pub queued_fault_of : TimerId → Script → StorySight → Op → (expected line number : ℕ) → CpuId
    → Option Fault
queued_fault_of timer script s op expected line number holder =
    if not (op.line == line) then Some faults.NoOperation
    else if not (number == 6) || not (expected == 0) then Some faults.MayNotRefuse
    else unless (is_on (timer_at s timer) holder || is_contested script s timer op.cpu)
    faults.NotQueuedThere

-- .. of an arming alone
abbrev pub queued_fault_by : What → Script → StorySight → Op → (expected line number : ℕ) → CpuId
    → Option Fault
queued_fault_by (whats.Arm timer class delay job arg) script s op expected line number holder =
    queued_fault_of timer script s op expected line number holder
queued_fault_by (whats.Cancel timer) script s op expected line number holder =
    Some faults.MayNotRefuse
queued_fault_by whats.Idle script s op expected line number holder = Some faults.MayNotRefuse
queued_fault_by whats.Wake script s op expected line number holder = Some faults.MayNotRefuse
queued_fault_by whats.Offline script s op expected line number holder = Some faults.MayNotRefuse
queued_fault_by whats.Online script s op expected line number holder = Some faults.MayNotRefuse

-- of an operation
unfoldable pub queued_fault : Script → StorySight → Op → (expected line number : ℕ) → CpuId
    → Option Fault
queued_fault script s op expected line number holder =
    queued_fault_by op.what script s op expected line number holder

-- what is wrong with an operation that was done, where its CPU's state refuses it or not
abbrev pub unrefused_fault : Script → StorySight → Op → (expected : ℕ) → Answer → Option Fault
unrefused_fault script s op expected answer =
    if not (expected == 0) then Some faults.MustRefuse else done_fault script s op answer

-- by what the line shows
abbrev pub answer_fault_by : Answer → Script → StorySight → Op → (expected : ℕ) → Option Fault
answer_fault_by (answers.Refused line number) script s op expected =
    refused_fault op expected line number
answer_fault_by (answers.RefusedQueued line number holder) script s op expected =
    queued_fault script s op expected line number holder
answer_fault_by answer script s op expected = unrefused_fault script s op expected answer

-- WHAT IS WRONG with an answer to an operation
unfoldable pub answer_fault : Script → StorySight → Op → Answer → Option Fault
answer_fault script s op answer = answer_fault_by answer script s op (number_of script s op)

-- a CPU whose state changes
abbrev pub changed_cpu : CpuSeen → (now : ℕ) → State → CpuSeen
changed_cpu c now state = record c {
  before = opening_of c now;
  changed = now;
  state = state;
}

-- a CPU is in another state, with no interrupt before a time
unfoldable pub with_state : StorySight → CpuId → (online idle : Bool) → (quiet : ℕ) → StorySight
with_state s cpu online idle quiet =
    with_cpu s
    (record (changed_cpu (cpu_at s cpu) s.point.time (record { online = online; idle = idle })) {
      quiet = quiet;
    })

-- an arming
abbrev pub arming_seen : StorySight → CpuId → TimerId → Class → (delay job arg wheel turn : ℕ)
    → Queued
arming_seen s cpu timer class delay job arg wheel turn = record {
  home = cpu;
  class = class;
  expires = ahead s.point.time delay;
  wheel = wheel;
  level = seen_or (arming_level_in s cpu class s.point.time
      (record { expires = ahead s.point.time delay; wheel = wheel })) 0;
  job = job;
  arg = arg;
  turn = turn;
}

-- what an arming tells
abbrev pub arming_by : What → Script → StorySight → CpuId → (wheel turn : ℕ) → StorySight
arming_by (whats.Arm timer class delay job arg) script s cpu wheel turn =
    requeued s timer (Some (arming_seen s cpu timer class delay job arg wheel turn)) cpu
    (fit_of script s timer cpu
    (record { in_order = is_nowhere (timer_at s timer); settles = true }))
arming_by (whats.Cancel timer) script s cpu wheel turn = s
arming_by whats.Idle script s cpu wheel turn = s
arming_by whats.Wake script s cpu wheel turn = s
arming_by whats.Offline script s cpu wheel turn = s
arming_by whats.Online script s cpu wheel turn = s

-- of an operation
unfoldable pub learned_arming : Script → StorySight → Op → (wheel turn : ℕ) → StorySight
learned_arming script s op wheel turn = arming_by op.what script s op.cpu wheel turn

-- what an answer tells
abbrev pub learned_by : Answer → Script → StorySight → Op → (turn : ℕ) → StorySight
learned_by (answers.Armed timer class wheel) script s op turn =
    learned_arming script s op wheel turn
learned_by (answers.Cancelled timer home) script s op turn =
    requeued s timer None op.cpu
    (fit_of script s timer op.cpu
    (record { in_order = is_on (timer_at s timer) home; settles = true }))
learned_by (answers.NotQueued timer) script s op turn = s
learned_by (answers.Idle until) script s op turn = with_state s op.cpu true true until
learned_by (answers.Stay first) script s op turn = s
learned_by answers.Woke script s op turn = with_state s op.cpu true false NEVER
learned_by answers.WentOffline script s op turn = with_state s op.cpu false false NEVER
learned_by answers.CameOnline script s op turn = with_state s op.cpu true false NEVER
learned_by (answers.Refused line number) script s op turn = s
learned_by (answers.RefusedQueued line number holder) script s op turn = s

-- of an operation
unfoldable pub learned_answer : Script → StorySight → Op → Answer → (turn : ℕ) → StorySight
learned_answer script s op answer turn = learned_by answer script s op turn

-- the CPU that went offline, if one did
abbrev pub gone_by : Answer → CpuId → Option CpuId
gone_by answers.WentOffline cpu = Some cpu
gone_by (answers.Armed timer class wheel) cpu = None
gone_by (answers.Cancelled timer home) cpu = None
gone_by (answers.NotQueued timer) cpu = None
gone_by (answers.Idle until) cpu = None
gone_by (answers.Stay first) cpu = None
gone_by answers.Woke cpu = None
gone_by answers.CameOnline cpu = None
gone_by (answers.Refused line number) cpu = None
gone_by (answers.RefusedQueued line number holder) cpu = None

-- the point behind an answer
abbrev pub point_answered : Point → Op → Answer → Point
point_answered p op answer = record p {
  answered_cpu = op.cpu;
  answered = op.line;
  leaving = gone_by answer op.cpu;
  dead = if is_some (gone_by answer op.cpu) then gone_by answer op.cpu else p.dead;
}

-- what is told with the operation answered
abbrev pub with_answer : StorySight → Op → Answer → StorySight
with_answer s op answer = record s { point = point_answered s.point op answer }

-- what is wrong with the line of an answer to an operation, if there is one
abbrev pub line_by : Script → StorySight → Answer → Option Op → Option Fault
line_by script s answer None = Some faults.NoOperation
line_by script s answer (Some op) = answer_fault script s op answer

-- WHAT IS WRONG with the line of an answer
unfoldable pub answer_line_fault : Script → StorySight → CpuId → Answer → Option Fault
answer_line_fault script s cpu answer = line_by script s answer (answered_op script s cpu)

-- what is told behind an answer to an operation, if there is one
abbrev pub after_by : Script → StorySight → Answer → (turn : ℕ) → Option Op → StorySight
after_by script s answer turn None = s
after_by script s answer turn (Some op) =
    with_answer (learned_answer script s op answer turn) op answer

-- what is told behind the line of an answer
unfoldable pub after_answer : Script → StorySight → CpuId → Answer → (turn : ℕ) → StorySight
after_answer script s cpu answer turn =
    after_by script s answer turn (answered_op script s cpu)
