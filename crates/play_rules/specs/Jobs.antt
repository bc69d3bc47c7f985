-- the jobs that a script names
use Rattle.std.specs.Prelude.{ℕ, Bool, false, List, [], ◌∷◌, Option, Some, None, if◌then◌else◌}
use Rattle.std.specs.Prelude.{nat_le}
use Rattle.std.specs.Option.{option_or}
use Rattle.tm_script.specs.declared.syntax.Moment.{Moment}
use Rattle.tm_script.specs.declared.syntax.Op.{Op}
use Rattle.tm_script.specs.declared.syntax.What.{What}
use Rattle.tm_script.specs.declared.syntax.What.TheVariants as whats
use Rattle.play_rules.specs.declared.asks.UnknownJob.{UnknownJob}

-- an operation arms a timer with a job that a table of so many hasn't
abbrev pub lacks_job : (jobs : ℕ) → What → Bool
lacks_job jobs (whats.Arm timer class delay job arg) = nat_le jobs job
lacks_job jobs what = false

-- the job that an operation names; 0 where it names none
abbrev pub job_of : What → ℕ
job_of (whats.Arm timer class delay job arg) = job
job_of what = 0

-- the job that an operation names, and its line
abbrev pub unknown_job : Op → UnknownJob
unknown_job o = record { line = o.line; job = job_of o.what }

-- the job that an operation names and the table hasn't
abbrev pub unknown_job_of : (jobs : ℕ) → Op → Option UnknownJob
unknown_job_of jobs o = if lacks_job jobs o.what then Some (unknown_job o) else None

-- the first of these operations that does so, and of a script's
unfoldable pub unknown_in_ops : (jobs : ℕ) → List Op → Option UnknownJob
unknown_in_ops jobs [] = None
unknown_in_ops jobs (o ∷ os) = option_or (unknown_job_of jobs o) (unknown_in_ops jobs os)

-- the first `arm` operation of these moments whose job isn't in a table of so many jobs
unfoldable pub first_unknown_job : (jobs : ℕ) → List Moment → Option UnknownJob
first_unknown_job jobs [] = None
first_unknown_job jobs (m ∷ ms) = option_or (unknown_in_ops jobs m.ops) (first_unknown_job jobs ms)
