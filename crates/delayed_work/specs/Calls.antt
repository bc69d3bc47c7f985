-- lists of calls on works
use Rattle.std.specs.Prelude.{ℕ, ◌+◌, ◌-◌, ◌^◌, ◌<◌, ◌≤◌, List, [], ◌∷◌, length, Option, Some}
use Rattle.std.specs.Prelude.{None}
use Rattle.tm_base.specs.declared.names.TheConstants.{TIME_LIMIT}
use Rattle.job_table.specs.declared.jobs.JobCall.{JobCall}
use Rattle.job_table.specs.declared.jobs.JobReply.{JobReply}
use Rattle.key_lists.specs.Tables.{first_key}
use Rattle.delayed_work.specs.declared.calls.WorksCall.{WorksCall}
use Rattle.delayed_work.specs.declared.calls.WorksCall.TheVariants.{Queue, Cancel, Expire, RunNext}
use Rattle.delayed_work.specs.declared.standing.Placed.{Placed}
use Rattle.delayed_work.specs.declared.standing.Placed.TheVariants as placing
use Rattle.delayed_work.specs.Ledger.{LedgerState, standing_of, work_number_in}
use Rattle.delayed_work.specs.Works.{Run, WorksState, cancelled_work, expired, queue_answer}
use Rattle.delayed_work.specs.Works.{work_queued}
use Rattle.delayed_work.specs.Works.{work_ran}
use Rattle.delayed_work.specs.Works.{told_run}

-- what the jobs answer
abbrev pub WorkReplies : Type 0
WorkReplies = ℕ → JobCall → JobReply

-- the works after a call
abbrev pub works_after_call : WorkReplies → WorksCall → WorksState → WorksState
works_after_call replies (Queue now work delay job arg line) works =
    work_queued now work delay job arg line works
works_after_call replies (Cancel now work line) works = cancelled_work now work line works
works_after_call replies (Expire now) works = expired now works
works_after_call replies (RunNext now) works = work_ran replies now works

-- after a list of calls
abbrev pub works_after_calls : WorkReplies → List WorksCall → WorksState → WorksState
works_after_calls replies [] works = works
works_after_calls replies (call ∷ calls) works =
    works_after_calls replies calls (works_after_call replies call works)

-- the time of a call, in jiffies
abbrev pub works_call_time : WorksCall → ℕ
works_call_time (Queue now work delay job arg line) = now
works_call_time (Cancel now work line) = now
works_call_time (Expire now) = now
works_call_time (RunNext now) = now

-- a call names a work that there is, and a delay of 32 bits
abbrev pub CallNamesWork : WorksCall → (count : ℕ) → Type 0
CallNamesWork (Queue now work delay job arg line) count = (work < count) × (delay < 2 ^ 32)
CallNamesWork (Cancel now work line) count = work < count
CallNamesWork (Expire now) count = Unit {0}
CallNamesWork (RunNext now) count = Unit {0}

-- a call may be made: times don't fall and end in time
pub record MayMakeCall (call : WorksCall) (works : WorksState) : Type 0 where
  pub in_time : works_call_time call ≤ TIME_LIMIT - 2 ^ 32
  pub not_before : works.time ≤ works_call_time call
  pub names : CallNamesWork call (length works.ledger.standings)

-- and so may each call of a list where it stands
abbrev pub MayMakeAll : WorkReplies → List WorksCall → WorksState → Type 0
MayMakeAll replies [] works = Unit {0}
MayMakeAll replies (call ∷ calls) works =
    MayMakeCall call works × MayMakeAll replies calls (works_after_call replies call works)

-- how many queueings a call accepts, by its answer
abbrev pub one_if_accepted : Placed → ℕ
one_if_accepted (placing.Waiting due) = 1
one_if_accepted placing.Ready = 1
one_if_accepted placing.Pending = 0

-- .. of a work that was queued again, or not
abbrev pub one_if_again : Option Placed → ℕ
one_if_again None = 0
one_if_again (Some answer) = one_if_accepted answer

-- .. of a run, or of none
abbrev pub one_if_run : Option Run → ℕ
one_if_run None = 0
one_if_run (Some run) = one_if_again run.2

-- how many queueings a call accepts
abbrev pub accepts : WorkReplies → WorksCall → WorksState → ℕ
accepts replies (Queue now work delay job arg line) works =
    one_if_accepted (queue_answer now work delay job arg works)
accepts replies (Cancel now work line) works = 0
accepts replies (Expire now) works = 0
accepts replies (RunNext now) works = one_if_run (told_run replies now works)

-- .. and a list of calls
abbrev pub accepts_all : WorkReplies → List WorksCall → WorksState → ℕ
accepts_all replies [] works = 0
accepts_all replies (call ∷ calls) works =
    accepts replies call works + accepts_all replies calls (works_after_call replies call works)

-- the number and the work that a call runs: the first ready work, by the number by which it is
-- pending
abbrev pub numbered_run : (work : ℕ) → Option ℕ → Option (ℕ × ℕ)
numbered_run work None = None
numbered_run work (Some number) = Some (number, work)

-- the run of the first ready work, if there is one
abbrev pub first_run : Option ℕ → LedgerState → Option (ℕ × ℕ)
first_run None ledger = None
first_run (Some work) ledger = numbered_run work (work_number_in (standing_of work ledger))

-- what a call runs: the number of a queueing and its work
abbrev pub runs : WorksCall → LedgerState → Option (ℕ × ℕ)
runs (RunNext now) ledger = first_run (first_key ledger.ready) ledger
runs _ ledger = None
