-- how the program ends
use Rattle.std.specs.Prelude.{◌≡◌, ℕ, ◌+◌, List, [], ◌∷◌, Bool, true, false, codes}
use Rattle.std.specs.Prelude.{Option, Some, None, String, string_bytes, bytes_eq, take, drop}
use Rattle.std.specs.Prelude.{if◌then◌else◌}
use Rattle.std.specs.declared.alloc.Global.{Global}
use Rattle.std.specs.Io.KnownBytes.{Appends}
use Rattle.tm_io.specs.Seen.{SinkSeen, SourceSeen, SourceFailed}
use Rattle.tm_io.specs.Sources.{TakesAll, TakesCount}
use Rattle.tm_report.specs.declared.lines.Line.{Line}
use Rattle.tm_script.specs.declared.faults.ScriptFault.{ScriptFault}
use Rattle.tm_script.specs.declared.syntax.Script.{Script}
use Rattle.tm_script.specs.Faults.{fault_of}
use Rattle.tm_script.specs.Grammar.{Spells}
use Rattle.report_reader.specs.declared.faults.ReportFault.{ReportFault}
use Rattle.report_reader.specs.Reader.{IsFirstFault, IsReportOf}
use Rattle.view_story.specs.declared.judge.Verdict.{Verdict}
use Rattle.view_story.specs.declared.judge.Verdict.TheVariants as verdicts
use Rattle.view_story.specs.declared.statuses.TheConstants.{FITS, MISFIT, MOST_STORY_BYTES}
use Rattle.view_story.specs.declared.statuses.TheConstants.{NO_MEMORY, NO_STORY, READ_FAULT}
use Rattle.view_story.specs.declared.statuses.TheConstants.{TOO_LONG, USAGE, WRITE_FAULT}
use Rattle.view_story.specs.Judge.{start, story_judged}
use Rattle.view_story.specs.Texts.{read_fault_text, report_refused, script_refused}
use Rattle.view_story.specs.Texts.{story_verdict_text, too_long_text, usage_text}

-- the status of a verdict
abbrev pub status_of : Verdict → ℕ
status_of (verdicts.Fits lines runs) = FITS
status_of (verdicts.Misfit line fault) = MISFIT

-- what is written of the lines of a report: what is said of them
pub record IsTold (script : Script) (play : Bool) (ls : List Line) (text : List ℕ) (status : ℕ) :
    Type 0 where
  pub text_is : text ≡ story_verdict_text (story_judged script (start script play) 0 ls)
  pub status_is : status ≡ status_of (story_judged script (start script play) 0 ls)

-- WHAT IS WRITTEN of the bytes behind a script: what is said of the report that they are, or the
-- first fault
pub data IsReportJudged (script : Script) (play : Bool) (bytes text : List ℕ) (status : ℕ) :
    Type 0 where
  judged_as : (ls : List Line) → IsReportOf bytes ls → IsTold script play ls text status
      → IsReportJudged script play bytes text status
  no_report : (fault : ReportFault) → IsFirstFault bytes fault → text ≡ report_refused fault
      → status ≡ NO_STORY → IsReportJudged script play bytes text status

-- WHAT IS WRITTEN of the bytes: the first so many spell a script, and what stands behind them is
-- judged; or they spell none, and the first fault is told
pub data IsJudged (play : Bool) (bytes text : List ℕ) (status : ℕ) : Type 0 where
  behind : (size : ℕ) → (script : Script) → Spells (take size bytes) script
      → IsReportJudged script play (drop size bytes) text status
      → IsJudged play bytes text status
  no_script : (size : ℕ) → (fault : ScriptFault) → fault_of (take size bytes) ≡ Some fault
      → text ≡ script_refused fault → status ≡ NO_STORY → IsJudged play bytes text status

-- the order of lines that the words name: none that of `run`, `play` that of `play`
abbrev pub order_of : List (String Global) → Option Bool
order_of [] = Some false
order_of (word ∷ []) = if bytes_eq (string_bytes word) (codes "play") then Some true else None
order_of (word ∷ other ∷ more) = None

-- what is written of the source, which went from old to new
pub data IsStoryOutput (play : Bool) (old new : SourceSeen) (text : List ℕ) (status : ℕ)
    : Type 0 where
  answered : (bytes : List ℕ) → TakesAll old new MOST_STORY_BYTES bytes
      → IsJudged play bytes text status → IsStoryOutput play old new text status
  broken : SourceFailed old new → text ≡ read_fault_text → status ≡ READ_FAULT
      → IsStoryOutput play old new text status
  long : TakesCount old new (MOST_STORY_BYTES + 1) → text ≡ too_long_text → status ≡ TOO_LONG
      → IsStoryOutput play old new text status

-- .. by the order that the words name, if they do
abbrev pub IsOutputBy : Option Bool → (old new : SourceSeen) → (text : List ℕ) → (status : ℕ)
    → Type 0
IsOutputBy (Some play) old new text status = IsStoryOutput play old new text status
IsOutputBy None old new text status = (text ≡ usage_text) × (status ≡ USAGE)

-- all of the text was written, with this status; or writing stopped before its end
pub data IsEnd (text : List ℕ) (whole : ℕ) (old new : SinkSeen) (status : ℕ) : Type 0 where
  written : Appends old.held new.held text → status ≡ whole → IsEnd text whole old new status
  stopped : status ≡ WRITE_FAULT → IsEnd text whole old new status
  wanting : status ≡ NO_MEMORY → IsEnd text whole old new status

-- WHAT THE PROGRAM DOES
pub data Tells (words : List (String Global)) (from to : SourceSeen) (old new : SinkSeen)
    (status : ℕ) : Type 0 where
  done : (text : List ℕ) → (whole : ℕ) → IsOutputBy (order_of words) from to text whole
      → IsEnd text whole old new status → Tells words from to old new status
  unread : status ≡ NO_MEMORY → Tells words from to old new status
