-- what a command writes of its input
use Rattle.std.specs.Prelude.{◌≡◌, ℕ, List, Some, None, if◌then◌else◌}
use Rattle.tm_report.specs.declared.lines.Line.{Line}
use Rattle.report_reader.specs.declared.faults.ReportFault.{ReportFault}
use Rattle.report_reader.specs.Reader.{IsFirstFault, IsReportOf}
use Rattle.view_chart.specs.Charts.{back_from, chart_text, window_of}
use Rattle.tm_script.specs.declared.faults.ScriptFault.{ScriptFault}
use Rattle.trace_text.specs.declared.traces.Trace.{Trace}
use Rattle.trace_text.specs.Faults.{trace_fault}
use Rattle.trace_text.specs.Texts.{SpellsTrace}
use Rattle.trace_explain.specs.trace_check.declared.verdict.Verdict.{Verdict}
use Rattle.trace_explain.specs.trace_check.declared.verdict.Verdict.TheVariants as verdicts
use Rattle.trace_explain.specs.trace_check.Answers.{start_for}
use Rattle.trace_explain.specs.Explained.{IsExplained}
use Rattle.text_words.specs.Words.{lines_of}
use Rattle.linux_view.specs.linux_all.All.{all_said}
use Rattle.linux_view.specs.Texts.{all_status, all_text}
use Rattle.linux_view.specs.declared.statuses.TheConstants.{FITS, MISFIT, NO_TRACE}
use Rattle.view_text.specs.Texts.{window_text}
use Rattle.view_main.specs.declared.words.Look.{Look}
use Rattle.tm_script.specs.declared.syntax.Script.{Script}
use Rattle.tm_script.specs.Faults.{fault_of}
use Rattle.tm_script.specs.Grammar.{Spells as SpellsScript}
use Rattle.view_stat.specs.declared.telling.Form.{Form}
use Rattle.view_stat.specs.Telling.{IsTold as IsStatTold}
use Rattle.view_stat.specs.Comparing.{IsAloneTold}
use Rattle.view_windows.specs.Windows.{refused_window, window_fault}
use Rattle.view_windows.specs.declared.faults.WindowFault.{WindowFault}
use Rattle.view_main.specs.Refusals.{back_text, report_text, script_text, steps_text}

-- the lines of a report as a picture, or as text
abbrev pub drawing_of : Look → List Line → List ℕ
drawing_of look ls =
    if look.text then window_text (window_of look.choice ls) look.covers ls
    else chart_text (window_of look.choice ls) look.covers ls

-- what is written of the lines of a report, where what is chosen of it can be drawn: the drawing; or
-- one of them goes back in time, and the first is told
pub data IsDrawnIn (look : Look) (ls : List Line) (text : List ℕ) (status : ℕ) : Type 0 where
  drawn : back_from 1 0 ls ≡ None → text ≡ drawing_of look ls → status ≡ FITS →
      IsDrawnIn look ls text status
  back : (number : ℕ) → back_from 1 0 ls ≡ Some number → text ≡ back_text number →
      status ≡ NO_TRACE → IsDrawnIn look ls text status

-- .. and wherever: what is chosen can't be drawn, and why is told
pub data IsDrawn (look : Look) (ls : List Line) (text : List ℕ) (status : ℕ) : Type 0 where
  chosen : window_fault look.choice ls ≡ None → IsDrawnIn look ls text status →
      IsDrawn look ls text status
  window_refused : (fault : WindowFault) → window_fault look.choice ls ≡ Some fault →
      text ≡ refused_window fault → status ≡ NO_TRACE → IsDrawn look ls text status

-- WHAT `chart` WRITES: the report that the bytes are is drawn; or they are none, and the first
-- fault is told
pub data IsDrawing (look : Look) (bytes text : List ℕ) (status : ℕ) : Type 0 where
  read : (ls : List Line) → IsReportOf bytes ls → IsDrawn look ls text status →
      IsDrawing look bytes text status
  refused : (fault : ReportFault) → IsFirstFault bytes fault → text ≡ report_text fault →
      status ≡ NO_TRACE → IsDrawing look bytes text status

-- the status of a trace that was told
abbrev pub status_told : Verdict → ℕ
status_told (verdicts.Yes steps) = FITS
status_told (verdicts.No index) = MISFIT

-- what is written of a trace: what is told of it, with its verdict
pub record IsTold (t : Trace) (text : List ℕ) (status : ℕ) : Type 0 where
  pub verdict : Verdict
  pub told : IsExplained (start_for t) 0 t.lines verdict text
  pub status_is : status ≡ status_told verdict

-- what is written of a trace of steps: of the one that the bytes spell this is; or they spell none,
-- and the first fault is told, with the line and what may stand there
pub data IsOfTrace (IsWritten : Trace → List ℕ → ℕ → Type 0) (bytes text : List ℕ) (status : ℕ) :
    Type 0 where
  spelled : (t : Trace) → SpellsTrace bytes t → IsWritten t text status →
      IsOfTrace IsWritten bytes text status
  unread : (fault : ScriptFault) → trace_fault bytes ≡ Some fault → text ≡ steps_text bytes fault →
      status ≡ NO_TRACE → IsOfTrace IsWritten bytes text status

-- WHAT `explain` WRITES: what is told of the trace
abbrev pub IsTelling : (bytes text : List ℕ) → (status : ℕ) → Type 0
IsTelling bytes text status = IsOfTrace IsTold bytes text status

-- what is written of a script, in the same way
pub data IsOfScript (IsWritten : Script → List ℕ → ℕ → Type 0) (bytes text : List ℕ) (status : ℕ) :
    Type 0 where
  scripted : (script : Script) → SpellsScript bytes script → IsWritten script text status →
      IsOfScript IsWritten bytes text status
  unscripted : (fault : ScriptFault) → fault_of bytes ≡ Some fault →
      text ≡ script_text bytes fault → status ≡ NO_TRACE → IsOfScript IsWritten bytes text status

-- WHAT `stat` WRITES: what was counted in the play of the script
abbrev pub IsCounting : (form : Form) → (bytes text : List ℕ) → (status : ℕ) → Type 0
IsCounting form bytes text status = IsOfScript (IsStatTold form) bytes text status

-- WHAT `stat --alone` WRITES: what was counted in that play, and in the same without the hierarchy
abbrev pub IsAloneCounting : (bytes text : List ℕ) → (status : ℕ) → Type 0
IsAloneCounting bytes text status = IsOfScript IsAloneTold bytes text status

-- WHAT `linux --all` WRITES: all that is wrong with the trace that the bytes are
pub record IsAllTold (bytes text : List ℕ) (status : ℕ) : Type 0 where
  pub text_is : text ≡ all_text (all_said (lines_of bytes)).misfits
      (all_said (lines_of bytes)).end
  pub status_is : status ≡ all_status (all_said (lines_of bytes)).misfits
      (all_said (lines_of bytes)).end
