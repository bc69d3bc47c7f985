-- the grammar: which scripts of works there are, and which bytes spell them
use Rattle.std.specs.Prelude.{◌≡◌, ℕ, ◌+◌, ◌<◌, ◌≤◌, List, [], ◌∷◌, length, true, Option, Some}
use Rattle.std.specs.Prelude.{None}
use Rattle.tm_base.specs.declared.limits.TheConstants.{MOST_TIMERS, MOST_OPS, MOST_LINES}
use Rattle.tm_base.specs.declared.limits.TheConstants.{SCRIPT_TIME_LIMIT}
use Rattle.tm_script.specs.Judge.{is_after, is_reached}
use Rattle.work_script.specs.declared.syntax.WorkScript.{WorkScript}
use Rattle.work_script.specs.declared.syntax.WorkMoment.{WorkMoment}
use Rattle.work_script.specs.declared.syntax.WorkOp.{WorkOp}
use Rattle.work_script.specs.declared.syntax.WorkOp.TheVariants.{Queue, Cancel}
use Rattle.work_script.specs.declared.words.TheConstants.{JOB_LIMIT, DELAY_LIMIT, ARG_LIMIT}
use Rattle.work_script.specs.Texts.{work_lines, work_text}

-- a queueing, where there are so many works
pub record IsQueueing (count work delay job arg : ℕ) : Type 0 where
  pub work_in_range : work < count
  pub delay_in_range : delay < DELAY_LIMIT
  pub job_in_range : job < JOB_LIMIT
  pub arg_in_range : arg < ARG_LIMIT

-- an operation, where there are so many works, and that stands on this line
abbrev pub IsWorkOp : (count line : ℕ) → WorkOp → Type 0
IsWorkOp count line (Queue own work delay job arg) =
    (own ≡ line) × IsQueueing count work delay job arg
IsWorkOp count line (Cancel own work) = (own ≡ line) × (work < count)

-- operations, of which the first stands on this line
abbrev pub AreWorkOps : (count line : ℕ) → List WorkOp → Type 0
AreWorkOps count line [] = Unit {0}
AreWorkOps count line (o ∷ os) = IsWorkOp count line o × AreWorkOps count (line + 1) os

-- Moments up to the end, of which the first stands on this line. Times ascend from the last one on,
-- where there is one, and the end isn't before the last of them.
abbrev pub AreWorkMoments : (count line : ℕ) (last : Option ℕ) (end : ℕ) → List WorkMoment → Type 0
AreWorkMoments count line last end [] = is_reached last end ≡ true
AreWorkMoments count line last end (m ∷ ms) =
    (is_after last m.at ≡ true) × (length m.ops ≤ MOST_OPS) × AreWorkOps count (line + 1) m.ops
    × AreWorkMoments count (line + 1 + length m.ops) (Some m.at) end ms

-- the number of the first line behind the first two
abbrev pub first_line : ℕ
first_line = 3

-- A SCRIPT of works of the grammar. Some bytes spell it exactly where it is one: its text.
pub record IsWorkScript (s : WorkScript) : Type 0 where
  pub some_works : 1 ≤ s.count
  pub few_works : s.count ≤ MOST_TIMERS
  pub moments : AreWorkMoments s.count first_line None s.end s.moments
  pub early_end : s.end < SCRIPT_TIME_LIMIT
  pub few_lines : length (work_lines s) ≤ MOST_LINES

-- these bytes spell the script
abbrev pub SpellsWorks : List ℕ → WorkScript → Type 0
SpellsWorks bytes s = IsWorkScript s × (work_text s ≡ bytes)
