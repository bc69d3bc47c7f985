-- how a run of a script by threads ends
use Rattle.std.specs.Prelude.{◌≡◌, ℕ, ◌≤◌, List, ◌++◌, Option, Some, None, length}
use Rattle.std.specs.List.{sum_by}
use Rattle.std.specs.FinSet.{FinSet}
use Rattle.std.specs.Ordering.{nat_cmp}
use Rattle.tm_base.specs.declared.limits.TheConstants.{MOST_OPS}
use Rattle.tm_script.specs.declared.syntax.Moment.{Moment}
use Rattle.tm_script.specs.declared.syntax.Script.{Script}
use Rattle.tm_report.specs.declared.lines.Line.{Line}
use Rattle.tm_report.specs.Lines.{report_text}
use Rattle.play_rules.specs.Interrupts.{Replies}
use Rattle.play_rules.specs.Jobs.{first_unknown_job}
use Rattle.play_rules.specs.Moments.{AfterEach, Turn, last_state, moment_at, spent_at, turn_lines}
use Rattle.play_rules.specs.Moments.{whole_lines}
use Rattle.play_rules.specs.Parts.{Gains, Played, Progress, counted}
use Rattle.core_world.specs.World.{World}
use Rattle.run_plain.specs.step_play.Rules.Seen.{InRun, resting}
use Rattle.run_plain.specs.step_play.Rules.StepRules.{step_rules}
use Rattle.run_plain.specs.step_play.SamePlay.{core_start}
use Rattle.run_plain.specs.run_story.Rounds.{IsRound}
use Rattle.run_plain.specs.run_story.Stories.{IsBrokenOff, IsPlayedMoment, IsStory, IsThreaded}
use Rattle.run_plain.specs.run_story.Stories.{count_due}
use Rattle.run_plain.specs.run_story.Stories.{ops_of}
use Rattle.play_driver.specs.Conditions.{IsMomentInRange}
use Rattle.core_plays.specs.OnCore.{EachIsAnsweredFor}
use Rattle.play_driver.specs.Outcomes.{work_limit}
use Rattle.play_driver.specs.PartLeaves.{Tells}
use Rattle.play_driver.specs.declared.outcomes.DriveFault.{DriveFault}
use Rattle.play_driver.specs.declared.outcomes.DriveFault.TheVariants.{BadJob, NoMemory, WorkSpent}

-- the work of these moments: they, their interrupts and the timers that they handed out
abbrev pub work_of : List (Turn World) → ℕ
work_of ts = sum_by (λ t. t.played.work) ts

-- AT REST: after each of these moments the core is in a run and at rest, and the headline holds of
-- it, so that each global timer that is queued on an online idle CPU is held or woken for
pub record EachTurnRests (ts : List (Turn World)) : Type 0 where
  pub rests : AfterEach (InRun resting) ts
  pub answered : AfterEach EachIsAnsweredFor ts

-- the report has gained the text of a story of the script, whose last moment leaves the core; every
-- job of the script is in the table, and the work stayed below its limit
pub record RunsToEnd (jobs : Replies) (table : ℕ) (script : Script) (old new : List ℕ)
    (core : World) : Type 0 where
  pub story : List (Turn World)
  pub is_story : IsStory jobs script story
  pub text : new ≡
      old ++ report_text (whole_lines step_rules script.end (core_start script) story)
  pub core_is : core ≡ last_state (core_start script) story
  pub known : first_unknown_job table script.moments ≡ None
  pub within : spent_at (work_limit script.version) 0 story ≡ None
  pub rests : EachTurnRests story

-- the report has gained the lines of a story that is broken off where its work has reached the
-- limit: after its last moment, and not before
pub record BreaksStory (jobs : Replies) (script : Script) (count : ℕ) (old new : List ℕ) : Type 0
  where
    pub story : List (Turn World)
    pub broken_off : IsBrokenOff jobs script story
    pub text : new ≡ old ++ report_text (turn_lines story)
    pub reached : work_limit script.version ≤ work_of story
    pub not_before : spent_at (work_limit script.version) 0 story ≡ None
    pub count_is : count ≡ counted (work_of story)
    pub rests : EachTurnRests story

-- why it isn't run to its end, and what the report has gained: the first unknown job, and nothing;
-- the work that was enough, and the finished moments; want of memory, and nothing
abbrev pub BreaksRun : Replies → (table : ℕ) → Script → DriveFault → (old new : List ℕ) → Type 0
BreaksRun jobs table script (BadJob line job) old new =
    (first_unknown_job table script.moments ≡ Some (record { line = line; job = job }))
    × (new ≡ old)
BreaksRun jobs table script (WorkSpent count) old new =
    (first_unknown_job table script.moments ≡ None) × BreaksStory jobs script count old new
BreaksRun jobs table script NoMemory old new = new ≡ old

-- a moment of no more operations than a script may have, each of a CPU and a timer that are there
-- (no public clause cites it)
pub record IsRunMoment (cpus timers : ℕ) (m : Moment) : Type 0 where
  pub in_range : IsMomentInRange cpus timers m
  pub few : length m.ops ≤ MOST_OPS

-- a moment with threads was told: its lines and its work are one's that it may be (no public clause
-- cites it)
pub record TellsThreaded (jobs : Replies) (due : FinSet nat_cmp) (m : Option Moment)
    (start : World) (old new : Progress) (after : World) : Type 0 where
  pub played : Played World
  pub is_threaded : IsThreaded jobs due m start played
  pub tells : Tells played old new after

-- a round of so many interrupts was told, with who answers in the moment, whatever core it began
-- with (no public clause cites it)
abbrev pub TellsRound : (interrupts : ℕ) → Option Moment → (after : World) → List Line
    → (old new : Progress) → Type 0
TellsRound interrupts m after lines old new =
    (jobs : Replies) (due : FinSet nat_cmp) (start : World)
    → IsRound jobs start due (ops_of m) after lines
    → interrupts ≡ count_due (length start.cpus) due
    → TellsThreaded jobs due m start old new after

-- a moment of a run was told: its lines and its work are one's that it may be (no public clause
-- cites it)
pub record TellsMoment (jobs : Replies) (ms : List Moment) (now : ℕ) (start : World)
    (old new : Progress) (after : World) : Type 0 where
  pub played : Played World
  pub is_moment : IsPlayedMoment jobs (moment_at now ms) (step_rules.at_clock now start) played
  pub tells : Tells played old new after

-- all moments of a run were told, and the work stayed below its limit (no public clause cites it)
pub record RunsOut (jobs : Replies) (script : Script) (old new : List ℕ) (after : World) : Type 0
  where
    pub story : List (Turn World)
    pub is_story : IsStory jobs script story
    pub text : new ≡ old ++ report_text (turn_lines story)
    pub state : after ≡ last_state (core_start script) story
    pub within : spent_at (work_limit script.version) 0 story ≡ None
    pub rests : EachTurnRests story

-- and so were the lines of the end (no public clause cites it)
pub record RunsWhole (jobs : Replies) (script : Script) (old new : List ℕ) (after : World) : Type 0
  where
    pub story : List (Turn World)
    pub is_story : IsStory jobs script story
    pub text : new ≡
        old ++ report_text (whole_lines step_rules script.end (core_start script) story)
    pub state : after ≡ last_state (core_start script) story
    pub within : spent_at (work_limit script.version) 0 story ≡ None
    pub rests : EachTurnRests story

-- the moments of a run were broken off by their work, or by want of memory (no public clause cites
-- it)
abbrev pub EndsRunEarly : Replies → Script → DriveFault → (old new : List ℕ) → Type 0
EndsRunEarly jobs script (BadJob line job) old new = ⊥
EndsRunEarly jobs script (WorkSpent count) old new = BreaksStory jobs script count old new
EndsRunEarly jobs script NoMemory old new = Gains old new
