-- works over the timers of one CPU, as plain data, and what each call makes of them
use Rattle.std.specs.Prelude.{◌≡◌, ℕ, zero, suc, ◌+◌, ◌≤◌, ◌==◌, List, [], ◌∷◌, length}
use Rattle.std.specs.Prelude.{Option, Some, None, is_some, if◌then◌else◌}
use Rattle.tm_base.specs.declared.limits.TheConstants.{MOST_TIMERS}
use Rattle.tm_base.specs.declared.names.Class.TheVariants.{Pinned, Global, Deferrable}
use Rattle.tm_base.specs.declared.names.CpuId.{CpuId}
use Rattle.wheel_core.specs.declared.item.Item.{Item}
use Rattle.wheel_core.specs.PlainBase.{NoneBehind, item_of, next_out}
use Rattle.cpu_bases.specs.CpuBases.{CpuBases, IsConsistent, NotAhead, armed, base_of, cancelled}
use Rattle.cpu_bases.specs.CpuBases.{drained, handed_out, item_queued}
use Rattle.job_table.specs.declared.jobs.JobCall.{JobCall}
use Rattle.job_table.specs.declared.jobs.JobReply.{JobReply}
use Rattle.job_table.specs.declared.jobs.JobReply.TheVariants.{Again}
use Rattle.key_lists.specs.Tables.{first_key}
use Rattle.delayed_work.specs.declared.standing.Standing.{Standing}
use Rattle.delayed_work.specs.declared.standing.Standing.TheVariants as standings
use Rattle.delayed_work.specs.declared.standing.Placed.{Placed}
use Rattle.delayed_work.specs.declared.standing.Placed.TheVariants.{Waiting, Ready, Pending}
use Rattle.delayed_work.specs.declared.standing.End.TheVariants as ends
use Rattle.delayed_work.specs.Ledger.{IsLedgerSound, LedgerState, accepted_ready, accepted_waiting}
use Rattle.delayed_work.specs.Ledger.{come_ready, is_work_waiting, new_ledger, standing_of}
use Rattle.delayed_work.specs.Ledger.{work_ended}

-- the bases, of which the global one has the timers of the works that wait; how the works stand;
-- and the last time at which a call changed something
pub record WorksState : Type 0 where
  pub bases : CpuBases
  pub ledger : LedgerState
  pub time : ℕ

-- so many free works over bases
abbrev pub new_works : CpuBases → (count : ℕ) → WorksState
new_works bases count = record { bases = bases; ledger = new_ledger count; time = 0 }

-- the one CPU there is
abbrev pub first_cpu : CpuId
first_cpu = record { 0 = 0 }

-- QUEUEING (queue_delayed_work): a free work is ready at once where the delay is 0; else its timer
-- is armed for so many jiffies from now
abbrev pub queue_answer_free : (now work delay job arg : ℕ) → CpuBases → Placed
queue_answer_free now work delay job arg bases =
    if delay == 0 then Ready
    else Waiting (item_queued now Global work (now + delay) job arg bases).wheel

-- the bases after a queueing: with a delay its timer is armed
abbrev pub bases_queued : (now work delay job arg line : ℕ) → CpuBases → CpuBases
bases_queued now work delay job arg line bases =
    if delay == 0 then bases
    else armed now Global work (now + delay) job arg line first_cpu bases

-- the ledger after a queueing
abbrev pub ledger_queued : (work delay job arg : ℕ) → LedgerState → LedgerState
ledger_queued work delay job arg ledger =
    if delay == 0 then accepted_ready work job arg ledger else accepted_waiting work ledger

-- a queueing that is accepted
abbrev pub accepted : (now work delay job arg line : ℕ) → WorksState → WorksState
accepted now work delay job arg line works = record {
  bases = bases_queued now work delay job arg line works.bases;
  ledger = ledger_queued work delay job arg works.ledger;
  time = now;
}

-- a work that is pending already stays as it is
abbrev pub work_queued_from : Standing → (now work delay job arg line : ℕ) → WorksState → WorksState
work_queued_from standings.Free now work delay job arg line works =
    accepted now work delay job arg line works
work_queued_from _ now work delay job arg line works = works

-- QUEUEING: a work that is pending stays as it is
abbrev pub work_queued : (now work delay job arg line : ℕ) → WorksState → WorksState
work_queued now work delay job arg line works =
    work_queued_from (standing_of work works.ledger) now work delay job arg line works

-- what queueing answers, by how the work stands
abbrev pub queue_answer_from : Standing → (now work delay job arg : ℕ) → CpuBases → Placed
queue_answer_from standings.Free now work delay job arg bases =
    queue_answer_free now work delay job arg bases
queue_answer_from _ now work delay job arg bases = Pending

-- what queueing answers
abbrev pub queue_answer : (now work delay job arg : ℕ) → WorksState → Placed
queue_answer now work delay job arg works =
    queue_answer_from (standing_of work works.ledger) now work delay job arg works.bases

-- CANCELLING (cancel_delayed_work): a pending work becomes free, and its timer is taken out where
-- it waits
abbrev pub cancelled_from : Standing → (now work line : ℕ) → WorksState → WorksState
cancelled_from standings.Free now work line works = works
cancelled_from (standings.Waiting number) now work line works = record {
  bases = cancelled now work line first_cpu works.bases;
  ledger = work_ended work ends.Cancelled works.ledger;
  time = now;
}
cancelled_from (standings.Ready number job arg) now work line works =
    record works { ledger = work_ended work ends.Cancelled works.ledger; time = now }

-- CANCELLING: a work that is pending is free afterwards
abbrev pub cancelled_work : (now work line : ℕ) → WorksState → WorksState
cancelled_work now work line works =
    cancelled_from (standing_of work works.ledger) now work line works

-- EXPIRY (delayed_work_timer_fn): the works of these items become ready, in this order
abbrev pub all_ready : List Item → LedgerState → LedgerState
all_ready [] ledger = ledger
all_ready (item ∷ items) ledger =
    all_ready items (come_ready item.id item.job item.arg ledger)

-- the items that go out at a time, so many at most, in the order of hand-out
abbrev pub out_then : Option Item → List Item → List Item
out_then None items = []
out_then (Some item) items = item ∷ items

-- what goes out by now, in the order of hand-out
abbrev pub items_out : (most now : ℕ) → CpuBases → List Item
items_out zero now bases = []
items_out (suc most) now bases =
    out_then (next_out now (base_of Global bases))
    (items_out most now (handed_out now Global first_cpu bases))

-- EXPIRING: the works of all due timers become ready
abbrev pub expired : (now : ℕ) → WorksState → WorksState
expired now works =
    let most = length (base_of Global works.bases).items in
    record {
      bases = drained most now Global first_cpu works.bases;
      ledger = all_ready (items_out most now works.bases) works.ledger;
      time = now;
    }

-- RUNNING (process_one_work): the first ready work becomes free, its job is run, and it is queued
-- again where the job says so; the class that the job names is set aside
abbrev pub work_call_of : (work arg now : ℕ) → JobCall
work_call_of work arg now =
    record { timer = record { 0 = work }; arg = arg; now = now; runner = first_cpu }

-- a work is queued again where its job says so
abbrev pub queued_again : JobReply → (now work job arg : ℕ) → WorksState → WorksState
queued_again (Again class delay) now work job arg works =
    accepted now work delay job arg 0 works
queued_again _ now work job arg works = works

-- .. and what that answers
abbrev pub queue_answer_again : JobReply → (now work job arg : ℕ) → CpuBases → Option Placed
queue_answer_again (Again class delay) now work job arg bases =
    Some (queue_answer_free now work delay job arg bases)
queue_answer_again _ now work job arg bases = None

-- a ready work runs
abbrev pub ran_from : Standing → (work : ℕ) → (ℕ → JobCall → JobReply) → (now : ℕ)
    → WorksState → WorksState
ran_from (standings.Ready number job arg) work replies now works =
    queued_again (replies job (work_call_of work arg now)) now work job arg
    (record works { ledger = work_ended work ends.Ran works.ledger; time = now })
ran_from _ work replies now works = works

-- the first ready work runs, if there is one
abbrev pub ran_first : Option ℕ → (ℕ → JobCall → JobReply) → (now : ℕ) → WorksState → WorksState
ran_first None replies now works = works
ran_first (Some work) replies now works =
    ran_from (standing_of work works.ledger) work replies now works

-- RUNNING the next ready work
abbrev pub work_ran : (ℕ → JobCall → JobReply) → (now : ℕ) → WorksState → WorksState
work_ran replies now works = ran_first (first_key works.ledger.ready) replies now works

-- what a run answers: the work, its job's reply, and where it was queued again
abbrev pub Run : Type 0
Run = ℕ × JobReply × Option Placed

-- what the run of a ready work tells
abbrev pub told_from : Standing → (work : ℕ) → (ℕ → JobCall → JobReply) → (now : ℕ)
    → WorksState → Option Run
told_from (standings.Ready number job arg) work replies now works =
    let reply = replies job (work_call_of work arg now) in
    Some (work, reply, queue_answer_again reply now work job arg works.bases)
told_from _ work replies now works = None

-- .. of the first ready one, if there is one
abbrev pub told_first : Option ℕ → (ℕ → JobCall → JobReply) → (now : ℕ) → WorksState → Option Run
told_first None replies now works = None
told_first (Some work) replies now works =
    told_from (standing_of work works.ledger) work replies now works

-- what running the next ready work tells
abbrev pub told_run : (ℕ → JobCall → JobReply) → (now : ℕ) → WorksState → Option Run
told_run replies now works = told_first (first_key works.ledger.ready) replies now works

-- LEFT: where a pending work stands, with the wheel expiry of the timer that it waits for
abbrev pub due_with : Option Item → Option Placed
due_with None = None
due_with (Some item) = Some (Waiting item.wheel)

-- where a pending work stands
abbrev pub work_left_from : Standing → (work : ℕ) → CpuBases → Option Placed
work_left_from standings.Free work bases = None
work_left_from (standings.Waiting number) work bases =
    due_with (item_of work (base_of Global bases).items)
work_left_from (standings.Ready number job arg) work bases = Some Ready

-- where a work is left at the end, if it is pending
abbrev pub work_left : (work : ℕ) → WorksState → Option Placed
work_left work works = work_left_from (standing_of work works.ledger) work works.bases

-- WHAT IS KEPT: a timer is queued exactly for each work that waits
pub record AreLawfulWorks (works : WorksState) : Type 0 where
  pub sound : IsLedgerSound works.ledger
  pub few : length works.ledger.standings ≤ MOST_TIMERS
  pub waiting : (work : ℕ) → is_some (item_of work (base_of Global works.bases).items)
      ≡ is_work_waiting (standing_of work works.ledger)
  pub none_pinned : (base_of Pinned works.bases).items ≡ []
  pub none_deferrable : (base_of Deferrable works.bases).items ≡ []
  pub none_behind : NoneBehind (base_of Global works.bases)
  pub not_ahead : NotAhead works.time (base_of Global works.bases)
  pub consistent : IsConsistent works.bases
