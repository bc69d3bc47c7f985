-- how a trace is played line by line; no public clause speaks of this
use Rattle.std.specs.Prelude.{◌≡◌, ℕ, ◌<◌, List, ◌∷◌, ◌++◌, Option, Some, None, length}
use Rattle.tm_base.specs.declared.names.CpuId.{CpuId}
use Rattle.tm_base.specs.declared.names.TimerId.{TimerId}
use Rattle.tm_report.specs.declared.lines.Line.TheVariants as report
use Rattle.tm_report.specs.declared.lines.ShownReason.{ShownReason}
use Rattle.tm_report.specs.Lines.{line_text}
use Rattle.core_world.specs.World.{World}
use Rattle.trace_text.specs.declared.traces.TraceLine.{TraceLine}
use Rattle.trace_text.specs.declared.traces.TraceLine.TheVariants as lines
use Rattle.trace_check.specs.declared.reason.Reason.{Reason}
use Rattle.trace_check.specs.declared.reason.Reason.TheVariants as reasons
use Rattle.trace_check.specs.declared.verdict.Verdict.{Verdict}
use Rattle.trace_check.specs.declared.verdict.Verdict.TheVariants as verdicts
use Rattle.trace_check.specs.Answers.{AreLinesPlayed, IsReasonShown}

-- the group that a reason names is there
abbrev pub IsReasonThere : World → Reason → Type 0
IsReasonThere w (reasons.Held group cpu) = group.0 < length w.groups
IsReasonThere w (reasons.Woken cpu at) = Unit {0}
IsReasonThere w (reasons.Carried case) = Unit {0}

-- a question names one of so many CPUs
abbrev pub AsksOf : (cpus : ℕ) → TraceLine → Type 0
AsksOf cpus (lines.Do step) = Unit {0}
AsksOf cpus (lines.Why cpu timer) = cpu.0 < cpus

-- the report has got the answer to a question
pub record Asks (w : World) (made : ℕ) (cpu : CpuId) (timer : TimerId) (old new : List ℕ) :
    Type 0 where
  pub shown : ShownReason
  pub is_shown : IsReasonShown w cpu.0 timer.0 shown
  pub written : new ≡ old ++ line_text (report.Why made cpu timer shown)

-- with a line in front, what is played from `after` on is played from `w` on
abbrev pub PlaysOn : (w : World) (made : ℕ) → TraceLine → (text : List ℕ) → (after : World) →
    Option ℕ → Type 0
PlaysOn w made line text after (Some more) =
    (rest : List TraceLine) (verdict : Verdict) (behind : List ℕ) →
    AreLinesPlayed after more rest verdict behind
    → AreLinesPlayed w made (line ∷ rest) verdict (text ++ behind)
PlaysOn w made line text after None =
    (rest : List TraceLine) → AreLinesPlayed w made (line ∷ rest) (verdicts.No made) text

-- a line was played, and the report has got its text
pub record PlaysLine
    (w : World) (made : ℕ) (line : TraceLine) (old new : List ℕ) (after : World)
    (next : Option ℕ) :
    Type 0 where
  pub text : List ℕ
  pub written : new ≡ old ++ text
  pub on : PlaysOn w made line text after next

-- lines were played, and the report has got their text
pub record WritesPlayed
    (w : World) (ls : List TraceLine) (verdict : Verdict) (old new : List ℕ) :
    Type 0 where
  pub text : List ℕ
  pub written : new ≡ old ++ text
  pub played : AreLinesPlayed w 0 ls verdict text
