-- where timers are queued, by whom they may be changed, and the wheel's rule
use Rattle.std.specs.Prelude.{ℕ, ◌+◌, ◌-◌, ◌==◌, ◌&&◌, ◌||◌, not, nat_lt, nat_le, Bool, true, false}
use Rattle.std.specs.Prelude.{List, [], slice_get, Option, Some, None, is_some, max}
use Rattle.std.specs.Prelude.{if◌then◌else◌}
use Rattle.std.specs.List.{list_any}
use Rattle.tm_base.specs.declared.names.Class.{Class}
use Rattle.tm_base.specs.declared.names.Class.TheVariants as classes
use Rattle.tm_base.specs.declared.names.CpuId.{CpuId}
use Rattle.tm_base.specs.declared.names.TimerId.{TimerId}
use Rattle.tm_base.specs.declared.names.TheConstants.{TIME_LIMIT}
use Rattle.tm_script.specs.declared.syntax.Moment.{Moment}
use Rattle.tm_script.specs.declared.syntax.Op.{Op}
use Rattle.tm_script.specs.declared.syntax.Script.{Script}
use Rattle.tm_script.specs.declared.syntax.What.{What}
use Rattle.tm_script.specs.declared.syntax.What.TheVariants as whats
use Rattle.wheel_core.specs.WheelExpiry.{wheel_expiry_of, wheel_level_of}
use Rattle.view_story.specs.declared.places.Asked.{Asked}
use Rattle.view_story.specs.declared.places.Fit.{Fit}
use Rattle.view_story.specs.declared.seen.Clocks.{Clocks}
use Rattle.view_story.specs.declared.seen.CpuSeen.{CpuSeen}
use Rattle.view_story.specs.declared.seen.Point.{Point}
use Rattle.view_story.specs.declared.seen.Queued.{Queued}
use Rattle.view_story.specs.declared.seen.TimerSeen.{TimerSeen}
use Rattle.view_story.specs.declared.seen.Touch.{Touch}
use Rattle.view_story.specs.declared.seen.Touch.TheVariants as touches
use Rattle.view_story.specs.Sight.{StorySight}
use Rattle.view_story.specs.Seen.{cpu_at, down, opening_of, timer_at, up, with_cpu}
use Rattle.view_story.specs.Seen.{with_timer}

-- the place of a class in the order of an interrupt
abbrev pub rank_of : Class → ℕ
rank_of classes.Pinned = 0
rank_of classes.Global = 1
rank_of classes.Deferrable = 2

-- two classes are the same
abbrev pub is_same_class : Class → Class → Bool
is_same_class one other = rank_of one == rank_of other

-- a time ahead of another
abbrev pub ahead : (now delay : ℕ) → ℕ
ahead now delay = if nat_lt now TIME_LIMIT then now + delay else now

-- queued in the base of a CPU and a class
abbrev pub is_in : CpuId → Class → Option Queued → Bool
is_in cpu class None = false
is_in cpu class (Some q) = (q.home.0 == cpu.0) && is_same_class q.class class

-- a timer is
abbrev pub is_queued_in : CpuId → Class → TimerSeen → Bool
is_queued_in cpu class t = is_in cpu class t.place

-- the clock of a class
abbrev pub class_clock_of : Clocks → Class → ℕ
class_clock_of clocks classes.Pinned = clocks.pinned
class_clock_of clocks classes.Global = clocks.global
class_clock_of clocks classes.Deferrable = clocks.deferrable

-- THE WHEEL'S RULE: the level of a timer that asks for an expiry and has this wheel expiry, in a
-- base of a clock; none where the rule gives another wheel expiry
abbrev pub level_at : (expires clock wheel : ℕ) → Option ℕ
level_at expires clock wheel =
    if nat_le TIME_LIMIT expires || nat_le TIME_LIMIT clock then None
    else if wheel_expiry_of expires clock == wheel then Some (wheel_level_of expires clock)
    else None

-- the first of two
abbrev pub level_or : Option ℕ → Option ℕ → Option ℕ
level_or (Some level) other = Some level
level_or None other = other

-- by either of two clocks
abbrev pub level_by : (expires one other wheel : ℕ) → Option ℕ
level_by expires one other wheel =
    level_or (level_at expires one wheel) (level_at expires other wheel)

-- a timer that is due in the base holds its clock back, and so explains a wheel expiry
abbrev pub explains_at : CpuId → Class → (by : ℕ) → Asked → Option Queued → Bool
explains_at cpu class by asked None = false
explains_at cpu class by asked (Some q) =
    (q.home.0 == cpu.0) && is_same_class q.class class && nat_le q.wheel by
    && is_some (level_at asked.expires q.wheel asked.wheel)

-- a timer does
abbrev pub explains : CpuId → Class → (by : ℕ) → Asked → TimerSeen → Bool
explains cpu class by asked t = explains_at cpu class by asked t.place

-- where the CPU has slept up to this moment its global base may have handed out a timer by now, or
-- not, and a timer that is due may hold a base's clock back
abbrev pub level_late : StorySight → CpuId → Class → (by : ℕ) → Asked → Option ℕ
level_late s cpu class by asked =
    level_or (level_by asked.expires by (ahead by 1) asked.wheel)
    (if list_any (explains cpu class by asked) s.timers then Some 0 else None)

-- AN ARMING in a base that is forwarded to a time: the level, where the wheel's rule gives the
-- wheel expiry that is shown; the base's clock is this time, or behind what it handed out in this
-- moment
unfoldable pub arming_level_in : StorySight → CpuId → Class → (by : ℕ) → Asked → Option ℕ
arming_level_in s cpu class by asked =
    level_or
    (level_at asked.expires (max (class_clock_of (cpu_at s cpu).clocks class) by) asked.wheel)
    (if (opening_of (cpu_at s cpu) s.point.time).idle then level_late s cpu class by asked
    else None)

-- the timer that an operation names
abbrev pub timer_named_by : What → Option TimerId
timer_named_by (whats.Arm timer class delay job arg) = Some timer
timer_named_by (whats.Cancel timer) = Some timer
timer_named_by whats.Idle = None
timer_named_by whats.Wake = None
timer_named_by whats.Offline = None
timer_named_by whats.Online = None

-- an operation does
abbrev pub timer_named : Op → Option TimerId
timer_named op = timer_named_by op.what

-- it is this timer
abbrev pub is_timer : TimerId → Option TimerId → Bool
is_timer timer None = false
is_timer timer (Some named) = named.0 == timer.0

-- an operation of another CPU names the timer
abbrev pub names_other : TimerId → CpuId → Op → Bool
names_other timer cpu op = is_timer timer (timer_named op) && not (op.cpu.0 == cpu.0)

-- the operations of a moment that may be there
abbrev pub ops_in : Option Moment → List Op
ops_in None = []
ops_in (Some m) = m.ops

-- the operations of the script at the time of the lines
unfoldable pub ops_at : Script → Point → List Op
ops_at script p =
    if not p.listed || (p.next == 0) then [] else ops_in (slice_get script.moments (p.next - 1))

-- an operation is that of another CPU
abbrev pub is_other : CpuId → Op → Bool
is_other cpu op = not (op.cpu.0 == cpu.0)

-- OTHERS ACT: operations of other CPUs stand in the same moment, and may come before or after
abbrev pub others_act : Script → StorySight → CpuId → Bool
others_act script s cpu =
    not s.point.play && list_any (is_other cpu) (ops_at script s.point)

-- of those who changed a timer in a moment one is another CPU
abbrev pub is_by_other : CpuId → Touch → Bool
is_by_other cpu touches.Nobody = false
is_by_other cpu (touches.One by) = not (by.0 == cpu.0)
is_by_other cpu touches.Several = true

-- another CPU changed a timer in this moment
abbrev pub touched_other : TimerSeen → (now : ℕ) → CpuId → Bool
touched_other t now cpu = if not (t.touched == now) then false else is_by_other cpu t.touch

-- queued and due by a time
abbrev pub is_hot_at : (now : ℕ) → Option Queued → Bool
is_hot_at now None = false
is_hot_at now (Some q) = nat_le q.wheel now

-- a timer is, so that a CPU may run it in this moment
abbrev pub is_hot : TimerSeen → (now : ℕ) → Bool
is_hot t now = is_hot_at now t.place

-- operations of other CPUs in this moment are of the same timer
abbrev pub is_shared : Script → StorySight → TimerId → CpuId → Bool
is_shared script s timer cpu = list_any (names_other timer cpu) (ops_at script s.point)

-- MET: operations of other CPUs in this moment may have come before or after the lines of this one,
-- and are of the same timer; or a line before left open where it is. In the order of `play` none is
unfoldable pub is_met : Script → StorySight → TimerId → CpuId → Bool
is_met script s timer cpu =
    if s.point.play then false
    else not (timer_at s timer).clear
    || touched_other (timer_at s timer) s.point.time cpu
    || is_shared script s timer cpu

-- CONTESTED: so may lines of other CPUs, where it is met, or another CPU may run it
unfoldable pub is_contested : Script → StorySight → TimerId → CpuId → Bool
is_contested script s timer cpu =
    is_met script s timer cpu
    || (not s.point.play && is_hot (timer_at s timer) s.point.time)

-- one CPU more
abbrev pub and_by : Touch → CpuId → Touch
and_by touches.Nobody cpu = touches.One cpu
and_by (touches.One by) cpu = if by.0 == cpu.0 then touches.One cpu else touches.Several
and_by touches.Several cpu = touches.Several

-- who changed a timer in this moment, with one CPU more
abbrev pub touched_by : TimerSeen → (now : ℕ) → CpuId → Touch
touched_by t now cpu =
    if not (t.touched == now) then touches.One cpu else and_by t.touch cpu

-- a count of global timers with one of this class more
abbrev pub globals_with : Class → ℕ → ℕ
globals_with classes.Global n = up n
globals_with classes.Pinned n = n
globals_with classes.Deferrable n = n

-- .. and with one less
abbrev pub globals_without : Class → ℕ → ℕ
globals_without classes.Global n = down n
globals_without classes.Pinned n = n
globals_without classes.Deferrable n = n

-- a CPU with a queued timer more
abbrev pub counted_in : CpuSeen → Class → CpuSeen
counted_in c class = record c { globals = globals_with class c.globals; timers = up c.timers }

-- .. and with one less
abbrev pub counted_out : CpuSeen → Class → CpuSeen
counted_out c class =
    record c { globals = globals_without class c.globals; timers = down c.timers }

-- a place is counted in
unfoldable pub place_entered : StorySight → Option Queued → StorySight
place_entered s None = s
place_entered s (Some q) = with_cpu s (counted_in (cpu_at s q.home) q.class)

-- .. or out
unfoldable pub left_behind : StorySight → Option Queued → StorySight
left_behind s None = s
left_behind s (Some q) = with_cpu s (counted_out (cpu_at s q.home) q.class)

-- how many timers aren't clear, where one changes
abbrev pub unclear_after : (unclear : ℕ) → (before after : Bool) → ℕ
unclear_after unclear before after =
    if before && not after then up unclear
    else if not before && after then down unclear
    else unclear

-- a timer is clear behind a line that is in order; or that tells all of it, in a later moment than
-- that which left it open
abbrev pub is_settled : TimerSeen → (now : ℕ) → Fit → Bool
is_settled t now fit =
    if t.clear then fit.in_order else fit.settles && not (t.touched == now)

-- a timer at another place
abbrev pub with_place : TimerSeen → Option Queued → (now : ℕ) → CpuId → Fit → TimerSeen
with_place t place now cpu fit = record t {
  place = place;
  clear = is_settled t now fit;
  touch = touched_by t now cpu;
  touched = now;
}

-- the fit of a line that tells all of its timer, or not: where operations of other CPUs in the
-- moment are of the same timer it settles nothing
abbrev pub fit_of : Script → StorySight → TimerId → CpuId → (whole : Fit) → Fit
fit_of script s timer cpu whole =
    record whole { settles = whole.settles && not (is_shared script s timer cpu) }

-- REQUEUED: a CPU has changed where a timer is queued
unfoldable pub requeued : StorySight → TimerId → Option Queued → CpuId → Fit → StorySight
requeued s timer place cpu fit =
    record (with_timer (place_entered (left_behind s (timer_at s timer).place) place)
    (with_place (timer_at s timer) place s.point.time cpu fit)) {
      point = record s.point {
        unclear = unclear_after s.point.unclear (timer_at s timer).clear
            (is_settled (timer_at s timer) s.point.time fit);
      };
    }
