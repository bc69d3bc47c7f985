-- the moment of a script at a time; and how a play ends, over any rules
use Rattle.std.specs.Prelude.{◌≡◌, ℕ, ◌+◌, ◌==◌, List, ◌++◌, Option, Some, None, if◌then◌else◌}
use Rattle.std.specs.Prelude.{find, length, option_map}
use Rattle.tm_base.specs.declared.limits.TheConstants.{WORK_LIMIT_V1, WORK_LIMIT_V2}
use Rattle.tm_report.specs.declared.lines.Line.{Line}
use Rattle.tm_report.specs.Lines.{report_text}
use Rattle.tm_script.specs.declared.syntax.Moment.{Moment}
use Rattle.tm_script.specs.declared.syntax.Script.{Script}
use Rattle.play_rules.specs.Rules.{Rules}
use Rattle.play_rules.specs.Parts.{Played, Progress, counted}
use Rattle.play_rules.specs.Tallies.{no_lines, tallied_all}
use Rattle.play_rules.specs.Interrupts.{Replies}
use Rattle.play_rules.specs.Jobs.{first_unknown_job}
use Rattle.play_rules.specs.Moments.{Turn, finished, last_state, spent_at, turn_lines, turns}
use Rattle.play_rules.specs.Moments.{whole_lines}
use Rattle.play_driver.specs.declared.outcomes.Counts.{Counts}
use Rattle.play_driver.specs.declared.outcomes.DriveFault.{DriveFault}
use Rattle.play_driver.specs.declared.outcomes.DriveFault.TheVariants.{BadJob, WorkSpent, NoMemory}

-- a moment was played: the report has gained its lines, of which one tells each timer that was
-- handed out, and the machine is in the state that it leaves
pub record PlaysMoment {S : Type 0}
    (p : Played S) (old new : List ℕ) (hand_outs : ℕ) (after : S) : Type 0 where
  pub text : new ≡ old ++ report_text p.lines
  pub hand_outs_are : hand_outs ≡ (tallied_all no_lines p.lines).runs
  pub state : after ≡ p.state

-- the limit of work by the version of a script
abbrev pub work_limit : (version : ℕ) → ℕ
work_limit version = if version == 1 then WORK_LIMIT_V1 else WORK_LIMIT_V2

-- the script's moment of a time, where there is one
abbrev pub moment_of : (at : ℕ) → List Moment → Option Moment
moment_of at ms = find (λ m. m.at == at) ms

-- the moments of a script from a start
abbrev pub script_turns : {S : Type 0} → Replies → Rules S → Script → S → List (Turn S)
script_turns jobs r script start =
    turns jobs r (script.end + 1) script.end 0 script.moments start

-- these lines were told, and the machine is in this state
pub record ToldLines {S : Type 0}
    (ls : List Line) (last : S) (old new : Progress) (after : S) : Type 0 where
  pub text : new.text ≡ old.text ++ report_text ls
  pub tally : new.tally ≡ tallied_all old.tally ls
  pub state : after ≡ last

-- all moments were played, and the work stayed below the limit
pub record PlaysOut {S : Type 0} (limit : ℕ) (ts : List (Turn S)) (start : S)
    (old new : Progress) (after : S) : Type 0 where
  pub told : ToldLines (turn_lines ts) (last_state start ts) old new after
  pub within : spent_at limit 0 ts ≡ None

-- the play was broken off by its work: the lines of the finished moments were told
pub record BreaksOff {S : Type 0}
    (limit count : ℕ) (ts : List (Turn S)) (old new : List ℕ) : Type 0 where
  pub spent : option_map counted (spent_at limit 0 ts) ≡ Some count
  pub text : new ≡ old ++ report_text (turn_lines (finished limit 0 ts))

-- the moments were broken off by their work, or by want of memory
abbrev pub EndsEarly : {S : Type 0} → (limit : ℕ) → List (Turn S) → DriveFault
    → (old new : List ℕ) → Type 0
EndsEarly limit ts (BadJob line job) old new = ⊥
EndsEarly limit ts (WorkSpent count) old new = BreaksOff limit count ts old new
EndsEarly limit ts NoMemory old new = (more : List ℕ) × (new ≡ old ++ more)

-- all of a play was told: its moments, and what is left
pub record TellsAll {S : Type 0} (r : Rules S) (jobs : Replies) (script : Script) (start : S)
    (old new : Progress) (after : S) : Type 0 where
  pub told : ToldLines (whole_lines r script.end start (script_turns jobs r script start))
      (last_state start (script_turns jobs r script start)) old new after
  pub within : spent_at (work_limit script.version) 0 (script_turns jobs r script start) ≡ None

-- the whole play of a script was told, and its moments and lines were counted: every job of the
-- script is in the table, and the work stayed below its limit
pub record PlaysWhole {S : Type 0}
    (r : Rules S) (jobs : Replies) (table : ℕ) (script : Script) (start : S)
    (old new : List ℕ) (counts : Counts) (after : S) : Type 0 where
  pub text : new ≡
      old ++ report_text (whole_lines r script.end start (script_turns jobs r script start))
  pub moments : counts.moments ≡ counted (length (script_turns jobs r script start))
  pub lines : counts.lines ≡
      tallied_all no_lines (whole_lines r script.end start (script_turns jobs r script start))
  pub state : after ≡ last_state start (script_turns jobs r script start)
  pub known : first_unknown_job table script.moments ≡ None
  pub within : spent_at (work_limit script.version) 0 (script_turns jobs r script start) ≡ None

-- why a script wasn't played to its end, and what its report has gained: the first unknown job, and
-- nothing; the work that was enough, and the finished moments; want of memory, and nothing
abbrev pub SaysFault : {S : Type 0} → Rules S → Replies → (table : ℕ) → Script → S → DriveFault
    → (old new : List ℕ) → Type 0
SaysFault r jobs table script start (BadJob line job) old new =
    (first_unknown_job table script.moments ≡ Some (record { line = line; job = job }))
    × (new ≡ old)
SaysFault r jobs table script start (WorkSpent count) old new =
    (first_unknown_job table script.moments ≡ None)
    × BreaksOff (work_limit script.version) count (script_turns jobs r script start) old new
SaysFault r jobs table script start NoMemory old new = new ≡ old

-- it is so for some text of a report, whatever that is
abbrev pub ForSomeText : ((new : List ℕ) → Type 0) → Type 0
ForSomeText P = (new : List ℕ) × P new
