-- PLAY: the shape of a play under the rules of the plain machine
use Rattle.std.specs.Prelude.{ℕ, ◌+◌, ◌&&◌, ◌||◌, List, Bool, not, Option, if◌then◌else◌, find, min}
use Rattle.std.specs.Prelude.{nat_le, nat_lt, true, ◌==◌}
use Rattle.std.specs.List.{fold, list_any}
use Rattle.tm_base.specs.declared.names.TheConstants.{NEVER}
use Rattle.tree_plan.specs.Shape.{tree_of}
use Rattle.tree_plan.specs.Paths.{level_count_of}
use Rattle.tm_script.specs.declared.syntax.Script.{Script}
use Rattle.tm_report.specs.Lines.{report_text}
use Rattle.play_rules.specs.Rules.{Rules}
use Rattle.play_rules.specs.State.{State, all_cpus, cpu_at, cpu_count, has_group, is_active, start}
use Rattle.play_rules.specs.Hierarchy.{come_online, duty, first_event, gone_offline, idled}
use Rattle.play_rules.specs.Hierarchy.{is_placed, looks_after, named, reevaluated, told_again}
use Rattle.play_rules.specs.Hierarchy.{woken}
use Rattle.play_rules.specs.Timers.{armed_on, cancelled_on, controller, controlling, count_on}
use Rattle.play_rules.specs.Timers.{drained_on, moved_first, where_queued}
use Rattle.play_rules.specs.Covers.{cover_of}
use Rattle.play_rules.specs.Interrupts.{Replies}
use Rattle.play_rules.specs.Moments.{AfterEach, Turn, spent_at, turns, whole_lines}

-- the state at another time
abbrev pub at_clock : (now : ℕ) → State → State
at_clock now s = record s { clock = now }

-- a CPU has an interrupt where it is online, and active or its wakeup has come (run_local_timers)
abbrev pub has_interrupt : State → (c : ℕ) → Bool
has_interrupt s c =
    (cpu_at s c).online && (not (cpu_at s c).idle || nat_le (cpu_at s c).wakeup s.clock)

-- in the next jiffy where an online CPU is active; else when the first of them wakes
abbrev pub next_interrupt : State → ℕ
next_interrupt s =
    if list_any (is_active s) (all_cpus s) then s.clock + 1
    else fold (λ least c. min least (cpu_at s c).wakeup) NEVER (all_cpus s)

-- the lowest other online placed CPU: to whom a CPU that leaves hands on (tmigr_cpu_offline takes
-- any)
abbrev pub successor : State → (c : ℕ) → Option ℕ
successor s c = find (λ d. not (d == c) && (is_placed s d && (cpu_at s d).online)) (all_cpus s)

-- a CPU that went offline has to hand on its duty, where there is one (tmigr_cpu_offline)
abbrev pub hands_on : State → (c : ℕ) → Bool
hands_on s c = has_group s c && nat_lt (duty s c) NEVER

-- an idle CPU re-evaluates as its interrupt ends (tmigr_cpu_new_timer)
abbrev pub ended : State → (c : ℕ) → State
ended s c = if (cpu_at s c).idle then reevaluated s c else s

-- THE RULES OF PLAY, the plain machine's: each question and change of `Rules`, by the definitions
-- of this crate
abbrev pub plain_rules : Rules State
plain_rules = record {
  clock = λ s. s.clock;
  timers = λ s. s.timers;
  cpus = cpu_count;
  levels = λ s. level_count_of s.tree;
  is_online = λ s c. (cpu_at s c).online;
  is_idle = λ s c. (cpu_at s c).idle;
  is_placed = is_placed;
  wakeup = λ s c. (cpu_at s c).wakeup;
  queued = where_queued;
  at_clock = at_clock;
  has_interrupt = has_interrupt;
  next_interrupt = next_interrupt;
  drained = drained_on;
  armed = armed_on;
  cancelled = cancelled_on;
  entered = λ s c. s;
  looks_after = looks_after;
  named = λ s c level tried. named s c level;
  takes = λ s c d. true;
  taken = λ s c d. s;
  let_go = λ s c d. told_again s d;
  ended = ended;
  first_event = first_event;
  idled = idled;
  woken = woken;
  successor = successor;
  gone_offline = gone_offline;
  hands_on = hands_on;
  handed_on = λ s c d. woken s d;
  come_online = come_online;
  count_queued = count_on;
  controller = controller;
  controlling = controlling;
  moved = moved_first;
  cover = cover_of;
}

-- the start of a script's play, and its moments
abbrev pub play_start : Script → State
play_start script = start (tree_of script.nodes script.cpus script.isolated) script.timers

-- the moments of a script's play
abbrev pub play_turns : Replies → Script → List (Turn State)
play_turns jobs script =
    turns jobs plain_rules (script.end + 1) script.end 0 script.moments (play_start script)

-- the text of a script's play
abbrev pub play_text : Replies → Script → List ℕ
play_text jobs script =
    report_text (whole_lines plain_rules script.end (play_start script) (play_turns jobs script))

-- the count of work at which a play is broken off, if it is
abbrev pub play_spent : Replies → (limit : ℕ) → Script → Option ℕ
play_spent jobs limit script = spent_at limit 0 (play_turns jobs script)

-- a fact holds after each moment of a script's play
abbrev pub AfterEachMoment : (State → Type 0) → Replies → Script → Type 0
AfterEachMoment P jobs script = AfterEach P (play_turns jobs script)
