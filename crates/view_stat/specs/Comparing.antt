-- TWO PLAYS COMPARED: a script's, and the same without the hierarchy; or those of two scripts
use Rattle.std.specs.Prelude.{◌≡◌, ℕ, ◌==◌, List, [], ◌++◌, Some, None, codes, if◌then◌else◌, length}
use Rattle.std.specs.Fmt.{decimal}
use Rattle.tm_script.specs.declared.syntax.Script.{Script}
use Rattle.job_table.specs.Standard.{standard_count, standard_reply}
use Rattle.play_driver.specs.declared.outcomes.DriveFault.TheVariants.{BadJob, WorkSpent}
use Rattle.view_counts.specs.Differences.{Titles, comparison_text}
use Rattle.view_counts.specs.declared.counts.CpuCounts.{CpuCounts}
use Rattle.view_counts.specs.declared.wakeups.Wakeup.{Wakeup}
use Rattle.view_stat.specs.Alone.{IsAlone, first_leave}
use Rattle.view_stat.specs.Stats.{IsCounted, IsCountedOn, IsUncountedOn}
use Rattle.view_stat.specs.Telling.{spent_text, unknown_text}
use Rattle.view_stat.specs.declared.comparing.TheConstants.{NOT_COMPARED}
use Rattle.view_stat.specs.declared.comparing.Versus.{Versus}
use Rattle.view_stat.specs.declared.comparing.Versus.TheVariants as versus
use Rattle.view_stat.specs.declared.telling.TheConstants.{COUNTED, JOB_UNKNOWN, WORK_SPENT}

-- what stands above the difference of two scripts, by whether both machines have as many CPUs
abbrev pub less_title : (ones twos : List CpuCounts) → List ℕ
less_title ones twos =
    if length ones == length twos then codes "\ndifference: script 2 less script 1\n"
    else codes "\ndifference: script 2 less script 1; a CPU that one of them hasn't counts as nothing\n"

-- what stands above each part
abbrev pub titles_of : Versus → (ones twos : List CpuCounts) → Titles
titles_of versus.Alone ones twos = record {
  one = codes "with the hierarchy\n";
  two = codes "\nwithout it: every CPU but CPU 0 is isolated\n";
  less = codes "\ndifference: without it less with it\n";
}
titles_of versus.Scripts ones twos = record {
  one = codes "script 1\n";
  two = codes "\nscript 2\n";
  less = less_title ones twos;
}

-- of which play it is told that nothing was counted in it
abbrev pub first_name : Versus → List ℕ
first_name versus.Alone = []
first_name versus.Scripts = codes "script 1: "

-- .. and of the other
abbrev pub second_name : Versus → List ℕ
second_name versus.Alone = codes "without the hierarchy: "
second_name versus.Scripts = codes "script 2: "

-- what is written where nothing was counted in a play: of which, and why
pub data IsNotCounted (name : List ℕ) (machine script : Script) (text : List ℕ) (status : ℕ) :
    Type 0 where
  unknown : (line job : ℕ) →
      IsUncountedOn standard_reply standard_count machine script (BadJob line job) →
      text ≡ name ++ unknown_text line job → status ≡ JOB_UNKNOWN →
      IsNotCounted name machine script text status
  spent : (count : ℕ) →
      IsUncountedOn standard_reply standard_count machine script (WorkSpent count) →
      text ≡ name ++ spent_text count → status ≡ WORK_SPENT →
      IsNotCounted name machine script text status

-- WHAT IS WRITTEN where these were counted in a first play: they, what was counted in the second, and
-- by how much that differs; or that nothing was counted in the second, and why
pub data IsSecondTold (pair : Versus) (ones : List CpuCounts) (machine script : Script)
    (text : List ℕ) (status : ℕ) : Type 0 where
  compared : (twos : List CpuCounts) (wakeups : List Wakeup) →
      IsCountedOn standard_reply standard_count machine script twos wakeups →
      text ≡ comparison_text (titles_of pair ones twos) ones twos → status ≡ COUNTED →
      IsSecondTold pair ones machine script text status
  second_fails : IsNotCounted (second_name pair) machine script text status →
      IsSecondTold pair ones machine script text status

-- WHAT IS WRITTEN of two plays: that of a script on its own machine, and one of a script on a
-- machine
pub data IsCompared (pair : Versus) (first machine script : Script) (text : List ℕ) (status : ℕ) :
    Type 0 where
  first_counts : (ones : List CpuCounts) (wakeups : List Wakeup) →
      IsCounted standard_reply standard_count first ones wakeups →
      IsSecondTold pair ones machine script text status →
      IsCompared pair first machine script text status
  first_fails : IsNotCounted (first_name pair) first first text status →
      IsCompared pair first machine script text status

-- WHAT IS WRITTEN of two scripts, each played on its own machine
abbrev pub IsPairTold : (one two : Script) → (text : List ℕ) → (status : ℕ) → Type 0
IsPairTold one two text status = IsCompared versus.Scripts one two two text status

-- the text where a script can't be played without the hierarchy
unfoldable pub leave_text : (line : ℕ) → List ℕ
leave_text line =
    codes "alone refused line " ++ (decimal line
    ++ codes ": CPU 0 goes offline, and no other CPU stands in the hierarchy there\n")

-- WHAT IS WRITTEN of a script beside the same without the hierarchy
pub data IsAloneTold (script : Script) (text : List ℕ) (status : ℕ) : Type 0 where
  both : (machine : Script) → first_leave script.moments ≡ None → IsAlone script machine →
      IsCompared versus.Alone script machine script text status →
      IsAloneTold script text status
  leaves : (line : ℕ) → first_leave script.moments ≡ Some line → text ≡ leave_text line →
      status ≡ NOT_COMPARED → IsAloneTold script text status
