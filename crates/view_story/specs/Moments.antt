-- going from one moment to the next: what must have been told by then, and which times are moments
use Rattle.std.specs.Prelude.{ℕ, ◌+◌, ◌==◌, ◌&&◌, ◌||◌, not, nat_lt, nat_le, Bool, true, false}
use Rattle.std.specs.Prelude.{List, [], length, drop, take, position, count_by, slice_get}
use Rattle.std.specs.Prelude.{Option, Some, None, max, if◌then◌else◌}
use Rattle.std.specs.List.{list_any}
use Rattle.tm_base.specs.declared.names.Class.TheVariants as classes
use Rattle.tm_script.specs.declared.syntax.Moment.{Moment}
use Rattle.tm_script.specs.declared.syntax.Op.{Op}
use Rattle.tm_script.specs.declared.syntax.Script.{Script}
use Rattle.tm_script.specs.declared.syntax.What.{What}
use Rattle.tm_script.specs.declared.syntax.What.TheVariants as whats
use Rattle.view_story.specs.declared.faults.Fault.{Fault}
use Rattle.view_story.specs.declared.faults.Fault.TheVariants as faults
use Rattle.view_story.specs.declared.seen.CpuSeen.{CpuSeen}
use Rattle.view_story.specs.declared.seen.Point.{Point}
use Rattle.view_story.specs.declared.seen.Queued.{Queued}
use Rattle.view_story.specs.declared.seen.Stage.{Stage}
use Rattle.view_story.specs.declared.seen.Stage.TheVariants as stages
use Rattle.view_story.specs.declared.seen.State.{State}
use Rattle.view_story.specs.declared.seen.TimerSeen.{TimerSeen}
use Rattle.view_story.specs.Sight.{StorySight}
use Rattle.view_story.specs.Seen.{cpu_at, opening_of, seen_or}
use Rattle.view_story.specs.Places.{ahead, is_same_class, ops_at}
use Rattle.view_story.specs.Runs.{may_interrupt}
use Rattle.view_story.specs.Covers.{is_owed, is_unmoved, some_uncovered}

-- an operation takes a CPU offline or online
abbrev pub hotplugs : What → Bool
hotplugs whats.Offline = true
hotplugs whats.Online = true
hotplugs (whats.Arm timer class delay job arg) = false
hotplugs (whats.Cancel timer) = false
hotplugs whats.Idle = false
hotplugs whats.Wake = false

-- of an operation
abbrev pub is_hotplug : Op → Bool
is_hotplug op = hotplugs op.what

-- at most one CPU may have an interrupt by a time
abbrev pub few_interrupt : StorySight → (by : ℕ) → Bool
few_interrupt s by = nat_le (count_by (may_interrupt s.point.time by) s.cpus) 1

-- a CPU makes a moment of a time: it is active, or its wakeup isn't later
abbrev pub makes_moment : (at : ℕ) → CpuSeen → Bool
makes_moment at c = c.state.online && (not c.state.idle || nat_le c.quiet at)

-- at most one CPU may have an interrupt in a later moment, by a time
abbrev pub few_come : StorySight → (by : ℕ) → Bool
few_come s by = nat_le (count_by (makes_moment by) s.cpus) 1

-- PLAIN: the moment is played without threads, since it has an operation that takes a CPU offline
-- or online, or none and at most one CPU with an interrupt; all moments of `play` are
unfoldable pub is_plain : Script → StorySight → Bool
is_plain script s =
    s.point.play
    || list_any is_hotplug (ops_at script s.point)
    || (length (ops_at script s.point) == 0) && few_interrupt s s.point.time

-- active
abbrev pub is_active_state : State → Bool
is_active_state opening = opening.online && not opening.idle

-- a CPU was active as the moment began
abbrev pub was_active : CpuSeen → (now : ℕ) → Bool
was_active c now = is_active_state (opening_of c now)

-- LOOKED FOR: a global timer of a CPU that sleeps must have run before a time: in a moment that was
-- played without threads, now or since
unfoldable pub is_looked_for : Script → StorySight → Queued → (to : ℕ) → Bool
is_looked_for script s q to =
    if nat_le q.wheel s.point.time && is_plain script s then true
    else nat_lt (max q.wheel (ahead s.point.time 1)) to
    && (s.point.play || few_come s (max q.wheel (ahead s.point.time 1)))

-- a timer of an online CPU that is due before a time must have run: a pinned one always; one of a
-- CPU that had an interrupt; a global one of a CPU that sleeps where it was looked for
unfoldable pub is_missed_on : Script → StorySight → CpuSeen → Queued → (to : ℕ) → Bool
is_missed_on script s c q to =
    if is_same_class q.class classes.Pinned then true
    else if was_active c s.point.time && nat_le q.wheel s.point.time then true
    else if not c.state.idle then nat_lt (ahead s.point.time 1) to
    else is_same_class q.class classes.Global && is_looked_for script s q to

-- queued so
abbrev pub is_missed_at : Script → StorySight → (clear : Bool) → (to : ℕ) → Option Queued → Bool
is_missed_at script s clear to None = false
is_missed_at script s clear to (Some q) =
    if not clear || nat_le to q.wheel then false
    else (cpu_at s q.home).state.online && is_missed_on script s (cpu_at s q.home) q to

-- MISSED: a timer must have run before a time, and hasn't
abbrev pub is_missed : Script → StorySight → (to : ℕ) → TimerSeen → Bool
is_missed script s to t = is_missed_at script s t.clear to t.place

-- the moments of the script from the next one on
abbrev pub moments_left : Script → Point → List Moment
moments_left script p =
    if nat_le p.next (length script.moments) then drop p.next script.moments else []

-- a moment doesn't come before a time
abbrev pub is_from : (to : ℕ) → Moment → Bool
is_from to m = nat_le to m.at

-- how many of these moments come before a time
abbrev pub moments_before : List Moment → (to : ℕ) → ℕ
moments_before ms to = seen_or (position (is_from to) ms) (length ms)

-- a moment has operations
abbrev pub has_ops : Moment → Bool
has_ops m = not (length m.ops == 0)

-- some of the first so many moments has
abbrev pub some_ops : List Moment → (count : ℕ) → Bool
some_ops ms count = nat_le count (length ms) && list_any has_ops (take count ms)

-- WHAT IS MISSING where the lines leave a moment for a time: an answer, a move, a cover, a run
unfoldable pub leave_fault : Script → StorySight → (to : ℕ) → Option Fault
leave_fault script s to =
    if is_owed script s
    || some_ops (moments_left script s.point) (moments_before (moments_left script s.point) to)
    then Some faults.Skipped
    else if is_unmoved s then Some faults.Unmoved
    else if s.point.listed && some_uncovered s s.point.covered then Some faults.Uncovered
    else if nat_lt 0 (moments_before (moments_left script s.point) to) && some_uncovered s 0
    then Some faults.Uncovered
    else if list_any (is_missed script s to) s.timers then Some faults.Missed
    else None

-- it is the time of a moment that may be there
abbrev pub is_at : (at : ℕ) → Option Moment → Bool
is_at at None = false
is_at at (Some m) = m.at == at

-- the script has a moment at this time, among these
abbrev pub is_listed : List Moment → (at : ℕ) → Bool
is_listed ms at = is_at at (slice_get ms (moments_before ms at))

-- a place of the script's moments, so many further
abbrev pub later_by : (next count : ℕ) → ℕ
later_by next count =
    if nat_le next 4294967295 && nat_le count 4294967295 then next + count else next

-- A TIME IS ONE OF A MOMENT: not behind the end, and the end, one of the script, or one of a CPU
unfoldable pub is_moment : Script → StorySight → (at : ℕ) → Bool
is_moment script s at =
    nat_le at script.end
    && ((at == script.end)
    || is_listed (moments_left script s.point) at
    || list_any (makes_moment at) s.cpus)

-- the point as a moment at this time begins
unfoldable pub point_at : Script → Point → (at : ℕ) → Point
point_at script p at = record p {
  time = at;
  listed = is_listed (moments_left script p) at;
  next = if is_listed (moments_left script p) at
      then later_by (later_by p.next (moments_before (moments_left script p) at)) 1
      else later_by p.next (moments_before (moments_left script p) at);
  stage = stages.Tellers;
  answered_cpu = record { 0 = 0 };
  answered = 0;
  runner = None;
  rank = 0;
  leaving = None;
  dead = None;
  handed = None;
  control = None;
  moved_rank = 0;
  moved_turn = 0;
  covered = 0;
}

-- the moment of a time, where it is another one
unfoldable pub gone_to : Script → StorySight → (at : ℕ) → StorySight
gone_to script s at =
    if at == s.point.time then s else record s { point = point_at script s.point at }

-- what is wrong with a time, in a moment that isn't the last
abbrev pub time_fault_in : Script → StorySight → (at : ℕ) → Option Fault
time_fault_in script s at =
    if nat_lt at s.point.time then Some faults.BackInTime
    else if at == s.point.time then None
    else if not (is_moment script s at) then Some faults.NoMoment
    else leave_fault script s at

-- by which lines may still come
abbrev pub time_fault_by : Stage → Script → StorySight → (at : ℕ) → Option Fault
time_fault_by stages.Tellers script s at = time_fault_in script s at
time_fault_by stages.Moves script s at = time_fault_in script s at
time_fault_by stages.Covers script s at = time_fault_in script s at
time_fault_by stages.Lefts script s at = Some faults.NotTheEnd
time_fault_by stages.Over script s at = Some faults.NotTheEnd

-- WHAT IS WRONG with a line at a time, before it is looked at
unfoldable pub time_fault : Script → StorySight → (at : ℕ) → Option Fault
time_fault script s at = time_fault_by s.point.stage script s at
