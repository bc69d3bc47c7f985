-- what the checker answers of a trace, and the text that it writes
use Rattle.std.specs.Prelude.{◌≡◌, ◌⊎◌, ℕ, ◌+◌, List, [], ◌∷◌, ◌++◌, length, take, slice_get}
use Rattle.std.specs.Prelude.{Option, Some, None, filter_map}
use Rattle.tm_base.specs.declared.names.CpuId.{CpuId}
use Rattle.tm_base.specs.declared.names.TimerId.{TimerId}
use Rattle.tm_report.specs.declared.lines.Line.TheVariants as report
use Rattle.tm_report.specs.declared.lines.ShownReason.{ShownReason}
use Rattle.tm_report.specs.declared.lines.ShownReason.TheVariants as shows
use Rattle.tm_report.specs.Lines.{line_text}
use Rattle.tree_plan.specs.Paths.{level_of, place_of}
use Rattle.core_world.specs.declared.step.Step.{Step}
use Rattle.core_world.specs.Enabled.{Enabled}
use Rattle.core_world.specs.Lists.{IsRun}
use Rattle.core_world.specs.Steps.{stepped}
use Rattle.core_world.specs.World.{World}
use Rattle.step_core.specs.core_facts.Cover.Runs.{start_with}
use Rattle.trace_text.specs.declared.traces.Trace.{Trace}
use Rattle.trace_text.specs.declared.traces.TraceLine.{TraceLine}
use Rattle.trace_text.specs.declared.traces.TraceLine.TheVariants as lines
use Rattle.trace_check.specs.declared.reason.Reason.{Reason}
use Rattle.trace_check.specs.declared.reason.Reason.TheVariants as reasons
use Rattle.trace_check.specs.declared.verdict.Verdict.{Verdict}
use Rattle.trace_check.specs.declared.verdict.Verdict.TheVariants as verdicts
use Rattle.trace_check.specs.Reasons.{HasNoReason, IsReason}

-- the start of a trace's machine: every CPU is active, nothing is queued
abbrev pub start_for : Trace → World
start_for t = start_with t.nodes t.cpus t.isolated t.timers

-- the step of a line, which a question has none of
abbrev pub step_in : TraceLine → Option Step
step_in (lines.Do step) = Some step
step_in (lines.Why cpu timer) = None

-- the steps of lines, without the questions
abbrev pub steps_of : List TraceLine → List Step
steps_of ls = filter_map step_in ls

-- ---- the verdict

-- all of the steps can be made, one after the other
pub record IsWhole (w : World) (steps : List Step) (count : ℕ) : Type 0 where
  pub after : World
  pub made : IsRun steps w after
  pub count_is : length steps ≡ count

-- the steps before this one can be made, and it isn't enabled there
pub record StopsAt (w : World) (steps : List Step) (index : ℕ) : Type 0 where
  pub step : Step
  pub there : slice_get steps index ≡ Some step
  pub before : World
  pub made : IsRun (take index steps) w before
  pub refused : Enabled before step → ⊥

-- THE VERDICT on steps from a world
abbrev pub IsVerdict : World → List Step → Verdict → Type 0
IsVerdict w steps (verdicts.Yes count) = IsWhole w steps count
IsVerdict w steps (verdicts.No index) = StopsAt w steps index

-- ---- the text

-- how a report shows who answers: a group by its level and its place there
abbrev pub shown_of : World → Reason → ShownReason
shown_of w (reasons.Held group cpu) =
    shows.Held (level_of w.tree group.0) (place_of w.tree group.0) cpu
shown_of w (reasons.Woken cpu at) = shows.Woken cpu at
shown_of w (reasons.Carried case) = shows.Carried case

-- a report shows this reason
pub record ShowsReason (w : World) (c timer : ℕ) (shown : ShownReason) : Type 0 where
  pub reason : Reason
  pub first : IsReason w c timer reason
  pub as_shown : shown ≡ shown_of w reason

-- it shows that there is none
pub record ShowsNone (w : World) (c timer : ℕ) (shown : ShownReason) : Type 0 where
  pub no_reason : HasNoReason w c timer
  pub as_shown : shown ≡ shows.Nothing

-- what is shown of a question
abbrev pub IsReasonShown : World → (c timer : ℕ) → ShownReason → Type 0
IsReasonShown w c timer shown = ShowsReason w c timer shown ⊎ ShowsNone w c timer shown

-- the text begins with the answer to a question where so many steps were made, and goes on with one
-- of which this holds
pub record BeginsWithAnswer
    (w : World) (made : ℕ) (cpu : CpuId) (timer : TimerId) (Rest : List ℕ → Type 0)
    (text : List ℕ) :
    Type 0 where
  pub shown : ShownReason
  pub behind : List ℕ
  pub is_shown : IsReasonShown w cpu.0 timer.0 shown
  pub begins : text ≡ line_text (report.Why made cpu timer shown) ++ behind
  pub goes_on : Rest behind

-- the step is enabled, and this holds
pub record IsStepMade (w : World) (step : Step) (Rest : Type 0) : Type 0 where
  pub enabled : Enabled w step
  pub goes_on : Rest

-- the step isn't enabled: the text ends with its number
pub record IsStepRefused (w : World) (made : ℕ) (step : Step) (verdict : Verdict) (text : List ℕ) :
    Type 0 where
  pub refused : Enabled w step → ⊥
  pub verdict_is : verdict ≡ verdicts.No made
  pub text_is : text ≡ line_text (report.No made)

-- no line is left: the text ends with the number of the steps
pub record IsTraceDone (made : ℕ) (verdict : Verdict) (text : List ℕ) : Type 0 where
  pub verdict_is : verdict ≡ verdicts.Yes made
  pub text_is : text ≡ line_text (report.Yes made)

-- THE TEXT of these lines, played from a world where so many steps were made, and their verdict
unfoldable pub AreLinesPlayed : World → (made : ℕ) → List TraceLine → Verdict → (text : List ℕ)
    → Type 0
AreLinesPlayed w made [] verdict text = IsTraceDone made verdict text
AreLinesPlayed w made (lines.Do step ∷ rest) verdict text =
    IsStepMade w step (AreLinesPlayed (stepped w step) (made + 1) rest verdict text)
    ⊎ IsStepRefused w made step verdict text
AreLinesPlayed w made (lines.Why cpu timer ∷ rest) verdict text =
    BeginsWithAnswer w made cpu timer (λ behind. AreLinesPlayed w made rest verdict behind) text

-- THE TEXT that the checker writes of a trace: an answer to each question before the end of the
-- run, and then that all steps can be made, or the first that can't
abbrev pub IsCheckText : Trace → (text : List ℕ) → Type 0
IsCheckText t text = (verdict : Verdict) × AreLinesPlayed (start_for t) 0 t.lines verdict text
