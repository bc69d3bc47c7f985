-- what the program's own jobs answer
use Rattle.std.specs.Prelude.{ℕ, if◌then◌else◌, ◌==◌}
use Rattle.tm_base.specs.declared.names.Class.{Class}
use Rattle.tm_base.specs.declared.names.Class.TheVariants.{Pinned, Global}
use Rattle.job_table.specs.declared.jobs.JobCall.{JobCall}
use Rattle.job_table.specs.declared.jobs.JobReply.{JobReply}
use Rattle.job_table.specs.declared.jobs.JobReply.TheVariants.{Done, Mark, Again}

-- the timer is done
abbrev pub one_shot_reply : JobCall → JobReply
one_shot_reply call = Done

-- the timer is armed again, as far ahead as the number that it was armed with
abbrev pub periodic_reply : Class → JobCall → JobReply
periodic_reply class call = Again class call.arg

-- the number that the timer was armed with is the mark
abbrev pub marker_reply : JobCall → JobReply
marker_reply call = Mark call.arg

-- THE PROGRAM'S JOBS: job 1 is periodic and global, job 2 periodic and pinned, job 3 a marker; job
-- 0, and any number past them, is done
abbrev pub standard_reply : ℕ → JobCall → JobReply
standard_reply n call =
    if n == 1 then periodic_reply Global call
    else if n == 2 then periodic_reply Pinned call
    else if n == 3 then marker_reply call
    else one_shot_reply call

-- how many they are
abbrev pub standard_count : ℕ
standard_count = 4
