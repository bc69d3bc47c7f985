-- what is told of a trace
use Rattle.std.specs.Prelude.{◌≡◌, ◌⊎◌, ℕ, ◌+◌, List, [], ◌∷◌, ◌++◌, codes}
use Rattle.core_world.specs.declared.step.Step.{Step}
use Rattle.core_world.specs.Enabled.{Enabled}
use Rattle.core_world.specs.Steps.{stepped}
use Rattle.core_world.specs.World.{World}
use Rattle.step_causes.specs.declared.causes.Cause.{Cause}
use Rattle.trace_text.specs.declared.traces.TraceLine.{TraceLine}
use Rattle.trace_text.specs.declared.traces.TraceLine.TheVariants as lines
use Rattle.step_causes.specs.CauseTexts.{around, cause_sentence}
use Rattle.trace_check.specs.declared.verdict.Verdict.{Verdict}
use Rattle.trace_check.specs.declared.verdict.Verdict.TheVariants as verdicts
use Rattle.step_causes.specs.Causes.{IsCause}
use Rattle.trace_explain.specs.Answers.{AreAnswers, IsTimerTold}
use Rattle.trace_explain.specs.Sentences.{step_text}

-- the line of a step that is made, by its number from 0
unfoldable pub made_text : World → (made : ℕ) → Step → List ℕ
made_text w made step = around (codes "step ") made (codes ": " ++ (step_text w step ++ codes "\n"))

-- the line of a step that can't be made
unfoldable pub refused_text : (made : ℕ) → Cause → List ℕ
refused_text made cause =
    around (codes "step ") made (codes " can't be made: " ++ (cause_sentence cause ++ codes "\n"))

-- the line behind all steps
abbrev pub whole_text : (made : ℕ) → List ℕ
whole_text made = around (codes "all steps can be made: ") made (codes "\n")

-- the step is enabled: the text begins with what it changes, and who answers after it, and goes on
-- with one of which this holds
pub record IsMade
    (w : World) (made : ℕ) (step : Step) (Rest : List ℕ → Type 0) (text : List ℕ) :
    Type 0 where
  pub enabled : Enabled w step
  pub answers : List ℕ
  pub behind : List ℕ
  pub who : AreAnswers (stepped w step) (stepped w step).timers answers
  pub begins : text ≡ made_text w made step ++ (answers ++ behind)
  pub goes_on : Rest behind

-- the step isn't enabled: the text ends with its cause
pub record IsRefusalExplained (w : World) (made : ℕ) (step : Step) (verdict : Verdict)
    (text : List ℕ) : Type 0 where
  pub cause : Cause
  pub is_cause : IsCause w (λ v. Enabled v step) cause
  pub verdict_is : verdict ≡ verdicts.No made
  pub text_is : text ≡ refused_text made cause

-- a question: the text begins with its answer
pub record IsQuestionExplained
    (w : World) (c timer : ℕ) (Rest : List ℕ → Type 0) (text : List ℕ) :
    Type 0 where
  pub told : List ℕ
  pub behind : List ℕ
  pub is_told : IsTimerTold w c timer told
  pub begins : text ≡ told ++ behind
  pub goes_on : Rest behind

-- no line is left
pub record IsDone (made : ℕ) (verdict : Verdict) (text : List ℕ) : Type 0 where
  pub verdict_is : verdict ≡ verdicts.Yes made
  pub text_is : text ≡ whole_text made

-- WHAT IS TOLD of these lines, from a world where so many steps were made, and their verdict: each
-- step that is enabled with what it changes, and the first that isn't with its cause
unfoldable pub IsExplained : World → (made : ℕ) → List TraceLine → Verdict → (text : List ℕ) →
    Type 0
IsExplained w made [] verdict text = IsDone made verdict text
IsExplained w made (lines.Do step ∷ rest) verdict text =
    IsMade w made step (λ behind. IsExplained (stepped w step) (made + 1) rest verdict behind) text
    ⊎ IsRefusalExplained w made step verdict text
IsExplained w made (lines.Why cpu timer ∷ rest) verdict text =
    IsQuestionExplained w cpu.0 timer.0 (λ behind. IsExplained w made rest verdict behind) text
