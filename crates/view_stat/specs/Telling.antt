-- WHAT `stat` WRITES of a script: what was counted in its play, or why nothing was
use Rattle.std.specs.Prelude.{◌≡◌, ℕ, List, ◌++◌, codes}
use Rattle.std.specs.Fmt.{decimal}
use Rattle.tm_script.specs.declared.syntax.Script.{Script}
use Rattle.job_table.specs.Standard.{standard_count, standard_reply}
use Rattle.play_driver.specs.declared.outcomes.DriveFault.TheVariants.{BadJob, WorkSpent}
use Rattle.view_counts.specs.declared.counts.CpuCounts.{CpuCounts}
use Rattle.view_counts.specs.Columns.{columns_text}
use Rattle.view_counts.specs.Rows.{rows_text}
use Rattle.view_counts.specs.Wakeups.{wakeups_text}
use Rattle.view_counts.specs.declared.wakeups.Wakeup.{Wakeup}
use Rattle.view_stat.specs.Stats.{IsCounted, IsUncounted}
use Rattle.view_stat.specs.declared.telling.Form.{Form}
use Rattle.view_stat.specs.declared.telling.Form.TheVariants as forms
use Rattle.view_stat.specs.declared.telling.TheConstants.{COUNTED, JOB_UNKNOWN, WORK_SPENT}

-- what was counted, in columns for people or in rows for scripts; or the wakeups
abbrev pub counts_told : Form → (end : ℕ) → List CpuCounts → List Wakeup → List ℕ
counts_told forms.Columns end cpus wakeups = columns_text cpus
counts_told forms.Rows end cpus wakeups = rows_text end cpus
counts_told forms.Wakeups end cpus wakeups = wakeups_text wakeups

-- the text where a line of the script names a job that there isn't
unfoldable pub unknown_text : (line job : ℕ) → List ℕ
unknown_text line job =
    codes "job unknown line " ++ (decimal line ++ (codes " job " ++ (decimal job ++ codes "\n")))

-- the text where the work has reached its limit
unfoldable pub spent_text : (count : ℕ) → List ℕ
spent_text count = codes "work spent " ++ (decimal count ++ codes "\n")

-- WHAT IS WRITTEN of a script
pub data IsTold (form : Form) (script : Script) (text : List ℕ) (status : ℕ) : Type 0 where
  counted : (cpus : List CpuCounts) (wakeups : List Wakeup) →
      IsCounted standard_reply standard_count script cpus wakeups →
      text ≡ counts_told form script.end cpus wakeups → status ≡ COUNTED →
      IsTold form script text status
  unknown : (line job : ℕ) →
      IsUncounted standard_reply standard_count script (BadJob line job) →
      text ≡ unknown_text line job → status ≡ JOB_UNKNOWN → IsTold form script text status
  spent : (count : ℕ) → IsUncounted standard_reply standard_count script (WorkSpent count) →
      text ≡ spent_text count → status ≡ WORK_SPENT → IsTold form script text status
