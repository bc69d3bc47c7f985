-- what the jobs of a table answer
use Rattle.std.specs.Prelude.{ℕ, List, Option, Some, None, slice_get}
use Rattle.job_table.specs.declared.jobs.JobCall.{JobCall}
use Rattle.job_table.specs.declared.jobs.JobReply.{JobReply}
use Rattle.job_table.specs.declared.jobs.JobReply.TheVariants.{Done}

-- the reply of a job, or Done where there is none
abbrev pub reply_or_done : {J : Type 0} → (J → JobCall → JobReply) → Option J → JobCall → JobReply
reply_or_done reply None call = Done
reply_or_done reply (Some job) call = reply job call

-- what the job of each number answers to a call; a number at or above the length has no job
abbrev pub replies_of : {J : Type 0} → (J → JobCall → JobReply) → List J → ℕ → JobCall → JobReply
replies_of reply jobs n call = reply_or_done reply (slice_get jobs n) call
