-- how a trace is told line by line; no public clause speaks of this
use Rattle.std.specs.Prelude.{◌≡◌, ℕ, List, ◌∷◌, ◌++◌, Option, Some, None}
use Rattle.core_world.specs.World.{World}
use Rattle.trace_text.specs.declared.traces.TraceLine.{TraceLine}
use Rattle.trace_check.specs.declared.verdict.Verdict.{Verdict}
use Rattle.trace_check.specs.declared.verdict.Verdict.TheVariants as verdicts
use Rattle.trace_explain.specs.Answers.{AreAnswers, IsTimerAnswer, IsTimerTold}
use Rattle.trace_explain.specs.Explained.{IsExplained}

-- a line for a timer, or none, stands behind a text
pub record AddsAnswer (w : World) (timer : ℕ) (old new : List ℕ) : Type 0 where
  pub last : List ℕ
  pub answer : IsTimerAnswer w timer last
  pub written : new ≡ old ++ last

-- the lines of all timers do
pub record AddsAnswers (w : World) (count : ℕ) (old new : List ℕ) : Type 0 where
  pub answers : List ℕ
  pub who : AreAnswers w count answers
  pub written : new ≡ old ++ answers

-- what is told of a question does
pub record AddsTold (w : World) (c timer : ℕ) (old new : List ℕ) : Type 0 where
  pub told : List ℕ
  pub is_told : IsTimerTold w c timer told
  pub written : new ≡ old ++ told

-- with a line in front, what is told from `after` on is told from `w` on
abbrev pub TellsOn : (w : World) (made : ℕ) → TraceLine → (text : List ℕ) → (after : World) →
    Option ℕ → Type 0
TellsOn w made line text after (Some more) =
    (rest : List TraceLine) (verdict : Verdict) (behind : List ℕ) →
    IsExplained after more rest verdict behind →
    IsExplained w made (line ∷ rest) verdict (text ++ behind)
TellsOn w made line text after None =
    (rest : List TraceLine) → IsExplained w made (line ∷ rest) (verdicts.No made) text

-- a line was told
pub record Tells
    (w : World) (made : ℕ) (line : TraceLine) (old new : List ℕ) (after : World)
    (next : Option ℕ) :
    Type 0 where
  pub text : List ℕ
  pub written : new ≡ old ++ text
  pub on : TellsOn w made line text after next
