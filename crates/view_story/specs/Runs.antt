-- the lines of timers that ran
use Rattle.std.specs.Prelude.{ℕ, ◌==◌, ◌&&◌, ◌||◌, not, nat_lt, nat_le, Bool, true, false}
use Rattle.std.specs.Prelude.{List, Option, Some, None, is_some, is_none, max}
use Rattle.std.specs.Prelude.{if◌then◌else◌}
use Rattle.std.specs.List.{list_any}
use Rattle.std.specs.FinSet as set
use Rattle.tm_base.specs.declared.names.Class.{Class}
use Rattle.tm_base.specs.declared.names.Class.TheVariants as classes
use Rattle.tm_base.specs.declared.names.CpuId.{CpuId}
use Rattle.tm_report.specs.declared.lines.ShownReply.{ShownReply}
use Rattle.tm_report.specs.declared.lines.ShownReply.TheVariants as shown
use Rattle.tm_script.specs.declared.syntax.Op.{Op}
use Rattle.tm_script.specs.declared.syntax.Script.{Script}
use Rattle.view_story.specs.declared.faults.Fault.{Fault}
use Rattle.view_story.specs.declared.faults.Fault.TheVariants as faults
use Rattle.view_story.specs.declared.runs.RunLine.{RunLine}
use Rattle.view_story.specs.declared.seen.Clocks.{Clocks}
use Rattle.view_story.specs.declared.seen.CpuSeen.{CpuSeen}
use Rattle.view_story.specs.declared.seen.Out.{Out}
use Rattle.view_story.specs.declared.seen.Point.{Point}
use Rattle.view_story.specs.declared.seen.Queued.{Queued}
use Rattle.view_story.specs.declared.seen.State.{State}
use Rattle.view_story.specs.Sight.{StorySight}
use Rattle.view_story.specs.Seen.{cpu_at, opening_of, seen_or, timer_at, up, with_cpu}
use Rattle.view_story.specs.Places.{ahead, arming_level_in, fit_of, is_met, ops_at, rank_of}
use Rattle.view_story.specs.Places.{requeued}
use Rattle.view_story.specs.Places.{is_same_class}

-- a place, where the line tells of it
abbrev pub place_told : RunLine → (clear : Bool) → Option Queued → Option Queued
place_told run clear None = None
place_told run clear (Some q) =
    if clear && (q.home.0 == run.home.0) && (q.wheel == run.wheel) then Some q else None

-- where the timer was queued, if the line tells of that place
unfoldable pub told_place : StorySight → RunLine → Option Queued
told_place s run =
    place_told run (timer_at s run.timer).clear (timer_at s run.timer).place

-- a CPU that began a moment so has an interrupt by a time, by its wakeup
abbrev pub has_interrupt_by : State → (quiet by : ℕ) → Bool
has_interrupt_by opening quiet by = opening.online && (not opening.idle || nat_le quiet by)

-- A CPU MAY HAVE AN INTERRUPT by a time: it was active, or its wakeup isn't later
abbrev pub may_interrupt : (now by : ℕ) → CpuSeen → Bool
may_interrupt now by c = has_interrupt_by (opening_of c now) c.quiet by

-- A CPU MAY RUN timers of this class of that home: its own, or global ones of a CPU that slept,
-- where both are in the hierarchy
abbrev pub may_run_line : Script → StorySight → RunLine → Class → Bool
may_run_line script s run class =
    if run.runner.0 == run.home.0 then true
    else is_same_class class classes.Global
    && not (set.contains script.isolated run.runner.0)
    && not (set.contains script.isolated run.home.0)
    && (opening_of (cpu_at s run.home) s.point.time).idle

-- THE ORDER OF HAND-OUT of a base: by wheel expiry, of a higher level first, armed last first
abbrev pub is_out_before : Out → Queued → Bool
is_out_before out q =
    if not (out.wheel == q.wheel) then nat_lt out.wheel q.wheel
    else if not (out.level == q.level) then nat_lt q.level out.level
    else nat_lt q.turn out.turn

-- behind what its base handed out last in this moment
abbrev pub comes_behind : (now : ℕ) → Queued → Option Out → Bool
comes_behind now q None = true
comes_behind now q (Some out) =
    not (out.at == now) || not (is_same_class out.class q.class) || is_out_before out q

-- the timer's turn has come in its base
abbrev pub is_its_turn : StorySight → Queued → Bool
is_its_turn s q = comes_behind s.point.time q (cpu_at s q.home).out

-- whose timers a CPU runs: 0 its own pinned ones, 1 global, 2 deferrable, 3 those of others
abbrev pub rank_in : RunLine → Class → ℕ
rank_in run class = if run.runner.0 == run.home.0 then rank_of class else 3

-- a run of this rank stands behind those of the runner's earlier bases
abbrev pub ranks_behind : (rank : ℕ) → RunLine → Class → Option CpuId → Bool
ranks_behind rank run class None = true
ranks_behind rank run class (Some runner) =
    not (runner.0 == run.runner.0) || nat_le rank (rank_in run class)

-- the run does
abbrev pub stands_behind : StorySight → RunLine → Class → Bool
stands_behind s run class = ranks_behind s.point.rank run class s.point.runner

-- the level at which the timer is armed again
abbrev pub again_level : StorySight → RunLine → Class → (delay wheel : ℕ) → Option ℕ
again_level s run class delay wheel =
    arming_level_in s run.runner class s.point.time
    (record { expires = ahead s.point.time delay; wheel = wheel })

-- ARMED AGAIN: a reply shows the arming, on the CPU that ran the timer, in that class, that far
-- ahead; or the timer was passed over, where another CPU may have armed it
abbrev pub shows_again : Script → StorySight → RunLine → Class → (delay : ℕ) → ShownReply → Bool
shows_again script s run class delay shown.Done = false
shows_again script s run class delay (shown.Mark mark) = false
shows_again script s run class delay (shown.Again told wheel) =
    is_same_class told class && is_some (again_level s run class delay wheel)
shows_again script s run class delay (shown.Skip cpu) = is_met script s run.timer run.runner

-- done
abbrev pub is_done : ShownReply → Bool
is_done shown.Done = true
is_done (shown.Mark mark) = false
is_done (shown.Again told wheel) = false
is_done (shown.Skip cpu) = false

-- a mark of this number
abbrev pub is_mark : (mark : ℕ) → ShownReply → Bool
is_mark mark shown.Done = false
is_mark mark (shown.Mark told) = told == mark
is_mark mark (shown.Again told wheel) = false
is_mark mark (shown.Skip cpu) = false

-- THE FOUR JOBS: 0 is done, 1 asks to be armed again as global its argument ahead, 2 as pinned, 3
-- marks its argument
unfoldable pub is_reply : Script → StorySight → RunLine → Queued → Bool
is_reply script s run q =
    if q.job == 0 then is_done run.reply
    else if q.job == 1 then shows_again script s run classes.Global q.arg run.reply
    else if q.job == 2 then shows_again script s run classes.Pinned q.arg run.reply
    else if q.job == 3 then is_mark q.arg run.reply
    else false

-- what is wrong with the run of a timer that was queued so
abbrev pub run_place_fault : Script → StorySight → RunLine → Queued → Option Fault
run_place_fault script s run q =
    if not (may_run_line script s run q.class) then Some faults.NotForRunner
    else if not (is_its_turn s q) then Some faults.Turn
    else if not (stands_behind s run q.class) then Some faults.Order
    else None

-- an operation comes behind the one that was answered last: in the order of `play` by its line,
-- else by its CPU first
abbrev pub is_op_after : Point → Op → Bool
is_op_after p op =
    if p.play || (op.cpu.0 == p.answered_cpu.0) then nat_lt p.answered op.line
    else nat_lt p.answered_cpu.0 op.cpu.0 || (p.answered == 0)

-- an operation of a lower CPU is to be answered before a run of this one
abbrev pub is_owed_before : Point → CpuId → Op → Bool
is_owed_before p runner op = is_op_after p op && nat_lt op.cpu.0 runner.0

-- a CPU isn't below the one before
abbrev pub is_not_below : (before : Option CpuId) → CpuId → Bool
is_not_below None cpu = true
is_not_below (Some other) cpu = nat_le other.0 cpu.0

-- A RUN MAY STAND behind the lines of lower CPUs, and before the answers of its own operations; in
-- the order of `play` before all answers
abbrev pub run_may_stand : Point → List Op → CpuId → Bool
run_may_stand p ops runner =
    if not (is_not_below p.runner runner) then false
    else if p.answered == 0 then p.play || not (list_any (is_owed_before p runner) ops)
    else not p.play && nat_lt p.answered_cpu.0 runner.0
    && not (list_any (is_owed_before p runner) ops)

-- of a place that the line tells, or doesn't
abbrev pub fault_by : Script → StorySight → RunLine → Option Queued → Option Fault
fault_by script s run (Some q) = run_place_fault script s run q
fault_by script s run None =
    if is_met script s run.timer run.runner then None else Some faults.NotQueuedSo

-- WHAT IS WRONG with the line of a timer that ran
unfoldable pub run_fault : Script → StorySight → RunLine → Option Fault
run_fault script s run =
    if not (run_may_stand s.point (ops_at script s.point) run.runner) then Some faults.Order
    else if nat_lt s.point.time run.wheel then Some faults.Early
    else if not (may_interrupt s.point.time s.point.time (cpu_at s run.runner)) then
    Some faults.NoInterrupt
    else fault_by script s run (told_place s run)

-- the job of a timer that was queued so, and its argument
abbrev pub job_in : Option Queued → ℕ
job_in None = 0
job_in (Some q) = q.job

-- .. and its argument
abbrev pub arg_in : Option Queued → ℕ
arg_in None = 0
arg_in (Some q) = q.arg

-- the timer as it is queued again
abbrev pub armed_again : Option Queued → StorySight → RunLine → Class → (wheel turn : ℕ) → Queued
armed_again place s run class wheel turn = record {
  home = run.runner;
  class = class;
  expires = ahead s.point.time (arg_in place);
  wheel = wheel;
  level = seen_or (again_level s run class (arg_in place) wheel) 0;
  job = job_in place;
  arg = arg_in place;
  turn = turn;
}

-- the timer as a reply leaves it
abbrev pub place_by : ShownReply → Option Queued → StorySight → RunLine → (turn : ℕ) → Option Queued
place_by shown.Done place s run turn = None
place_by (shown.Mark mark) place s run turn = None
place_by (shown.Again class wheel) place s run turn =
    Some (armed_again place s run class wheel turn)
place_by (shown.Skip cpu) place s run turn = None

-- the timer as it is queued behind its run
abbrev pub place_after : StorySight → RunLine → (turn : ℕ) → Option Queued
place_after s run turn = place_by run.reply (timer_at s run.timer).place s run turn

-- the clocks of a home behind a hand-out
abbrev pub home_clocks_after : Clocks → Class → (wheel : ℕ) → Clocks
home_clocks_after clocks classes.Pinned wheel =
    record clocks { pinned = max clocks.pinned (up wheel) }
home_clocks_after clocks classes.Global wheel =
    record clocks { global = max clocks.global (up wheel) }
home_clocks_after clocks classes.Deferrable wheel =
    record clocks { deferrable = max clocks.deferrable (up wheel) }

-- a base of a home handed a timer out
unfoldable pub hand_out_seen : StorySight → Queued → StorySight
hand_out_seen s q =
    with_cpu s
    (record (cpu_at s q.home) {
      clocks = home_clocks_after (cpu_at s q.home).clocks q.class q.wheel;
      out = Some (record {
        at = s.point.time;
        class = q.class;
        wheel = q.wheel;
        level = q.level;
        turn = q.turn;
      });
    })

-- a timer went out, where the line tells of its place
abbrev pub out_of : StorySight → Option Queued → StorySight
out_of s None = s
out_of s (Some q) = hand_out_seen s q

-- the timer of a line did
unfoldable pub taken_out : StorySight → RunLine → StorySight
taken_out s run = out_of s (told_place s run)

-- what is wrong with the reply of a timer that was queued so
abbrev pub reply_by : Script → StorySight → RunLine → Option Queued → Option Fault
reply_by script s run None = None
reply_by script s run (Some q) =
    if is_reply script s run q then None else Some faults.Reply

-- .. behind the hand-out
unfoldable pub reply_fault : Script → StorySight → RunLine → Option Fault
reply_fault script s run = reply_by script s run (told_place s run)

-- the point behind a run
abbrev pub point_ran : Point → RunLine → (rank : ℕ) → Point
point_ran p run rank = record p {
  runner = Some run.runner;
  rank = rank;
  leaving = None;
  runs = up p.runs;
}

-- the rank of a run, by where the timer was queued
abbrev pub rank_after : Option Queued → RunLine → ℕ
rank_after None run = 0
rank_after (Some q) run = rank_in run q.class

-- what is told with a run at this rank
abbrev pub with_run : StorySight → RunLine → (rank : ℕ) → StorySight
with_run s run rank = record s { point = point_ran s.point run rank }

-- what a run tells, behind the hand-out
unfoldable pub learned_run : Script → StorySight → RunLine → (turn : ℕ) → StorySight
learned_run script s run turn =
    with_run
    (requeued s run.timer (place_after s run turn) run.runner
    (fit_of script s run.timer run.runner (record {
      in_order = is_some (told_place s run);
      settles = is_none (place_after s run turn);
    }))) run
    (rank_after (told_place s run) run)

-- the first of two faults
abbrev pub fault_or : Option Fault → Option Fault → Option Fault
fault_or None later = later
fault_or (Some fault) later = Some fault

-- WHAT IS WRONG with a run and its reply
unfoldable pub run_line_fault : Script → StorySight → RunLine → Option Fault
run_line_fault script s run =
    fault_or (run_fault script s run) (reply_fault script (taken_out s run) run)

-- what is told behind a run
unfoldable pub after_run : Script → StorySight → RunLine → (turn : ℕ) → StorySight
after_run script s run turn = learned_run script (taken_out s run) run turn
