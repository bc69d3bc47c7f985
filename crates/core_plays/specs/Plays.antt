-- how playing a script on the core ends
use Rattle.std.specs.Prelude.{◌≡◌, ℕ, List, ◌++◌, Some, None, length, option_map}
use Rattle.tm_script.specs.declared.syntax.Script.{Script}
use Rattle.tm_script.specs.Grammar.{IsScript}
use Rattle.play_rules.specs.Interrupts.{Replies}
use Rattle.play_rules.specs.Jobs.{first_unknown_job}
use Rattle.play_rules.specs.Moments.{last_state, whole_lines}
use Rattle.play_rules.specs.Parts.{counted}
use Rattle.play_laws.specs.Jiffies.Jiffies.{EachHasEnded, InItsJiffy}
use Rattle.play_laws.specs.Answered.Settled.{EachAnswered}
use Rattle.play_laws.specs.Told.Covers.{EachCoverIn}
use Rattle.play_laws.specs.Told.Journals.{TellSameUpTo, is_hand_out}
use Rattle.play_laws.specs.Told.Left.{LeftIn}
use Rattle.play_laws.specs.Told.Runs.{LinesAlternate}
use Rattle.play_laws.specs.Work.Course.{ComesToItsEnd, times_of}
use Rattle.play_rules.specs.Play.{AfterEachMoment, plain_rules, play_spent, play_start, play_text}
use Rattle.play_rules.specs.Play.{play_turns}
use Rattle.play_rules.specs.Tallies.{no_lines, tallied_all}
use Rattle.play_rules.specs.declared.tally.Tally.{Tally}
use Rattle.core_world.specs.World.{World}
use Rattle.core_machine.specs.step_play.Rules.Seen.{state_of}
use Rattle.core_plays.specs.OnCore.{IsPlayedBySteps, core_end}
use Rattle.play_driver.specs.Outcomes.{SaysFault, work_limit}
use Rattle.play_driver.specs.declared.outcomes.DriveFault.{DriveFault}
use Rattle.play_driver.specs.declared.outcomes.DriveFault.TheVariants.{BadJob, NoMemory, WorkSpent}
use Rattle.core_plays.specs.declared.numbers.Summary.{Summary}

-- every job of a script is in the table, and its work stays below the limit
pub record CanPlay (jobs : Replies) (table : ℕ) (script : Script) : Type 0 where
  pub known : first_unknown_job table script.moments ≡ None
  pub within : play_spent jobs (work_limit script.version) script ≡ None

-- what the lines of a script's play tell is so: the `run` lines are the hand-outs of the journals,
-- up to each moment; each arming has its run, unless it is cancelled or moved before it, and each
-- run its arming; the `left` lines are the timers that are still queued; the `cover` lines tell who
-- answers
pub record LinesHold (jobs : Replies) (script : Script) : Type 0 where
  pub runs : (n : ℕ) → TellSameUpTo is_hand_out jobs script n
  pub alternate : (timer c : ℕ) → LinesAlternate jobs script timer c
  pub left : LeftIn jobs script
  pub covers : EachCoverIn jobs script

-- what holds of a script's play, whatever comes of it: the core plays it by steps; its moments go
-- on to the script's end; its lines are true; and after each of them each global timer that is
-- queued on an online idle CPU is held or woken for, and each pinned or global timer whose wheel
-- expiry has come has its end, and was handed out in that jiffy where it was handed out
pub record LawsHold (jobs : Replies) (script : Script) : Type 0 where
  pub to_end : ComesToItsEnd script (times_of (play_turns jobs script))
  pub by_steps : IsPlayedBySteps jobs script
  pub answered : AfterEachMoment EachAnswered jobs script
  pub in_its_jiffy : AfterEachMoment InItsJiffy jobs script
  pub ended : AfterEachMoment EachHasEnded jobs script
  pub lines : LinesHold jobs script

-- THE LAWS hold of the play of every script of the grammar, whatever its jobs answer (no public
-- clause cites it)
abbrev pub LawsHoldOfEach : Type 0
LawsHoldOfEach = (jobs : Replies) (script : Script) → IsScript script → LawsHold jobs script

-- the report has gained the text of the script's play; the core is the one that the last moment of
-- the play made of steps leaves, and what Play sees of it is the state that Play's last moment
-- leaves
pub record PlaysToEnd (jobs : Replies) (table : ℕ) (script : Script) (old new : List ℕ)
    (core : World) : Type 0 where
  pub text : new ≡ old ++ play_text jobs script
  pub core_is : core ≡ core_end jobs script
  pub state : state_of core ≡ last_state (play_start script) (play_turns jobs script)
  pub can_play : CanPlay jobs table script
  pub laws : LawsHold jobs script

-- why it isn't played to its end, and what the report has gained then
abbrev pub BreaksPlay : Replies → (table : ℕ) → Script → DriveFault → (old new : List ℕ) → Type 0
BreaksPlay jobs table script fault old new =
    SaysFault plain_rules jobs table script (play_start script) fault old new

-- the numbers of a play that ended there, of so many moments and lines
abbrev pub summary_with : (end moments : ℕ) → Tally → Summary
summary_with end moments lines = record {
  moments = moments;
  runs = lines.runs;
  remote = lines.remote;
  armed = lines.armed;
  cancels = lines.cancels;
  idles = lines.idles;
  stays = lines.stays;
  wakes = lines.wakes;
  refused = lines.refused;
  left = lines.left;
  end = end;
}

-- THE NUMBERS of a script's play
abbrev pub summary_of : Replies → Script → Summary
summary_of jobs script =
    summary_with script.end (counted (length (play_turns jobs script)))
    (tallied_all no_lines
    (whole_lines plain_rules script.end (play_start script) (play_turns jobs script)))

-- a script's play was summed up: these are its numbers
pub record Summarizes (jobs : Replies) (table : ℕ) (script : Script) (numbers : Summary)
    : Type 0 where
  pub numbers_are : numbers ≡ summary_of jobs script
  pub can_play : CanPlay jobs table script
  pub laws : LawsHold jobs script

-- why there are none
abbrev pub BreaksSummary : Replies → (table : ℕ) → Script → DriveFault → Type 0
BreaksSummary jobs table script (BadJob line job) =
    first_unknown_job table script.moments ≡ Some (record { line = line; job = job })
BreaksSummary jobs table script (WorkSpent count) =
    (first_unknown_job table script.moments ≡ None)
    × (option_map counted (play_spent jobs (work_limit script.version) script) ≡ Some count)
BreaksSummary jobs table script NoMemory = Unit {0}
