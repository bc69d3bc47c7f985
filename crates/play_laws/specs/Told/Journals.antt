-- the lines of a report against the CPUs' journals: what both tell of timers
use Rattle.std.specs.Prelude.{◌≡◌, ℕ, List, [], ◌∷◌, ◌++◌, Bool, true, false, ◌==◌, filter}
use Rattle.std.specs.Prelude.{flat_map, take}
use Rattle.tm_base.specs.declared.names.Class.{Class}
use Rattle.tm_script.specs.declared.syntax.Script.{Script}
use Rattle.tm_script.specs.Grammar.{IsScript}
use Rattle.tm_report.specs.declared.lines.Line.{Line}
use Rattle.tm_report.specs.declared.lines.Line.TheVariants as lines
use Rattle.tm_report.specs.declared.lines.ShownReply.{ShownReply}
use Rattle.tm_report.specs.declared.lines.ShownReply.TheVariants as shown
use Rattle.cpu_bases.specs.declared.entry.Act.{Act}
use Rattle.cpu_bases.specs.declared.entry.Act.TheVariants as acts
use Rattle.cpu_bases.specs.declared.entry.Entry.{Entry}
use Rattle.play_rules.specs.Interrupts.{Replies}
use Rattle.play_rules.specs.Moments.{last_state, turn_lines}
use Rattle.play_rules.specs.State.{State}
use Rattle.play_rules.specs.Timers.{bases_at}
use Rattle.play_rules.specs.Play.{play_start, play_turns}

-- A DEED on a timer of a CPU, at a time: it is armed there in a class and gets this wheel expiry;
-- it is handed out at that wheel expiry, by a CPU that runs its job; a CPU cancels it; it leaves
-- for another CPU; it comes from another one, and gets this wheel expiry
pub data Deed : Type 0 where
  arms : (at timer : ℕ) (class : Class) (wheel : ℕ) → Deed
  hands_out : (at timer wheel by : ℕ) → Deed
  cancels : (at timer by : ℕ) → Deed
  moves_out : (at timer to : ℕ) → Deed
  moves_in : (at timer wheel : ℕ) → Deed

-- BY A JOURNAL: what an entry tells; one that says that a base was drained tells of no timer
abbrev pub by_entry : Act → Entry → List Deed
by_entry acts.Armed entry = arms entry.at entry.timer.0 entry.class entry.wheel ∷ []
by_entry acts.Handed entry = hands_out entry.at entry.timer.0 entry.wheel entry.by.0 ∷ []
by_entry acts.Cancelled entry = cancels entry.at entry.timer.0 entry.by.0 ∷ []
by_entry acts.MovedOut entry = moves_out entry.at entry.timer.0 entry.by.0 ∷ []
by_entry acts.MovedIn entry = moves_in entry.at entry.timer.0 entry.wheel ∷ []
by_entry acts.Ticked entry = []

-- BY A JOURNAL: what its entries tell, in order
abbrev pub by_journal : List Entry → List Deed
by_journal journal = flat_map (λ entry. by_entry entry.act entry) journal

-- told where it is so
abbrev pub told_if : Bool → Deed → List Deed
told_if true told = told ∷ []
told_if false told = []

-- BY LINES: of a run whose job armed its timer again, the arming on the CPU that ran it
abbrev pub by_reply : (c now runner timer : ℕ) → ShownReply → List Deed
by_reply c now runner timer (shown.Again class wheel) =
    told_if (c == runner) (arms now timer class wheel)
by_reply c now runner timer reply = []

-- BY LINES: what a line tells of the timers of CPU c. `arm` tells of an arming, `run` of a hand-out
-- on the timer's home and of an arming on the runner where the job's reply is `again`, `cancel` of
-- a cancelling, `moved` of leaving one CPU and coming to another; every other line of none
abbrev pub by_line : (c : ℕ) → Line → List Deed
by_line c (lines.Arm now cpu timer class wheel) =
    told_if (c == cpu.0) (arms now timer.0 class wheel)
by_line c (lines.Run now runner timer home wheel reply) =
    told_if (c == home.0) (hands_out now timer.0 wheel runner.0)
    ++ by_reply c now runner.0 timer.0 reply
by_line c (lines.Cancel now cpu timer home) =
    told_if (c == home.0) (cancels now timer.0 cpu.0)
by_line c (lines.Moved now timer from to wheel) =
    told_if (c == from.0) (moves_out now timer.0 to.0)
    ++ told_if (c == to.0) (moves_in now timer.0 wheel)
by_line c line = []

-- BY LINES: what they tell of the timers of CPU c, in order
abbrev pub by_lines : (c : ℕ) → List Line → List Deed
by_lines c ls = flat_map (by_line c) ls

-- whether it is a hand-out
abbrev pub is_hand_out : Deed → Bool
is_hand_out (hands_out at timer wheel by) = true
is_hand_out told = false

-- the timer of which it is told
abbrev pub timer_of : Deed → ℕ
timer_of (arms at timer class wheel) = timer
timer_of (hands_out at timer wheel by) = timer
timer_of (cancels at timer by) = timer
timer_of (moves_out at timer to) = timer
timer_of (moves_in at timer wheel) = timer

-- whether it is told of this timer
abbrev pub is_of : (timer : ℕ) → Deed → Bool
is_of timer told = timer_of told == timer

-- these lines tell of each CPU's timers what its journal tells, of what passes a test: the same, as
-- often, and in the same order. Of a CPU that isn't there they tell nothing
abbrev pub TellSame : (Deed → Bool) → List Line → State → Type 0
TellSame passes ls s = (c : ℕ)
    → filter passes (by_lines c ls) ≡ filter passes (by_journal (bases_at s c).journal)

-- it is so after the first n moments of a script's play: the lines up to there against the journals
-- there
abbrev pub TellSameUpTo : (Deed → Bool) → Replies → Script → (n : ℕ) → Type 0
TellSameUpTo passes jobs script n =
    let first = take n (play_turns jobs script) in
    TellSame passes (turn_lines first) (last_state (play_start script) first)

-- and so after each moment of every script's play, whatever its jobs answer
abbrev pub TellSameAfterEach : (Deed → Bool) → Type 0
TellSameAfterEach passes = (jobs : Replies) (script : Script) (n : ℕ) → IsScript script
    → TellSameUpTo passes jobs script n

-- RUNS ARE HAND-OUTS: the `run` lines of the timers of a CPU are, one to one and in order, the
-- hand-outs of its journal: timer, jiffy, wheel expiry and the CPU that runs the job
abbrev pub RunsAreHandOuts : Type 0
RunsAreHandOuts = TellSameAfterEach is_hand_out

-- EACH TIMER'S LINES: what the lines tell of a timer on a CPU, its armings, hand-outs, cancellings
-- and moves, is what the CPU's journal tells of it, one to one and in order
abbrev pub EachTimerIsTold : Type 0
EachTimerIsTold = (timer : ℕ) → TellSameAfterEach (is_of timer)
