-- the law of works, over every list of calls
use Rattle.std.specs.Prelude.{◌≡◌, ◌↔◌, ℕ, ◌^◌, ◌<◌, ◌≤◌, true, List, length, take}
use Rattle.std.specs.Prelude.{Some, slice_get, option_map}
use Rattle.tm_base.specs.declared.limits.TheConstants.{MOST_TIMERS}
use Rattle.tm_base.specs.declared.names.Class.{Class}
use Rattle.tm_base.specs.declared.names.Class.TheVariants.{Global}
use Rattle.wheel_core.specs.declared.item.Item.{Item}
use Rattle.wheel_core.specs.PlainBase.{item_of}
use Rattle.cpu_bases.specs.CpuBases.{CpuBases, IsConsistent, base_of, empty_bases}
use Rattle.job_table.specs.declared.jobs.JobCall.{JobCall}
use Rattle.job_table.specs.declared.jobs.JobReply.TheVariants.{Again}
use Rattle.delayed_work.specs.declared.calls.WorksCall.{WorksCall}
use Rattle.delayed_work.specs.declared.calls.WorksCall.TheVariants.{Expire, RunNext}
use Rattle.delayed_work.specs.declared.standing.End.TheVariants.{Pending, Ran}
use Rattle.delayed_work.specs.Ledger.{WorkTold, is_ready, is_work_waiting, standing_of}
use Rattle.delayed_work.specs.Ledger.{work_number_in}
use Rattle.delayed_work.specs.Calls.{MayMakeAll, WorkReplies, accepts_all, runs, works_after_call}
use Rattle.delayed_work.specs.Calls.{works_after_calls}
use Rattle.delayed_work.specs.Works.{Run, WorksState, new_works, told_run}

-- the works before the call at a place
abbrev pub works_before : WorkReplies → List WorksCall → WorksState → (i : ℕ) → WorksState
works_before replies calls start i = works_after_calls replies (take i calls) start

-- the call at a place runs this work by this number
pub record RunsAt (replies : WorkReplies) (calls : List WorksCall) (start : WorksState)
    (i number work : ℕ) : Type 0 where
  pub call : WorksCall
  pub there : slice_get calls i ≡ Some call
  pub runs_it : runs call (works_before replies calls start i).ledger ≡ Some (number, work)

-- exactly one call runs it
pub record RanOnce (replies : WorkReplies) (calls : List WorksCall) (start : WorksState)
    (number work : ℕ) : Type 0 where
  pub place : ℕ
  pub runs_it : RunsAt replies calls start place number work
  pub no_other : (j other : ℕ) → RunsAt replies calls start j number other → j ≡ place

-- the queued timer of a work went out at a time that isn't before its wheel expiry
pub record WentOut (call : WorksCall) (works : WorksState) (work : ℕ) : Type 0 where
  pub now : ℕ
  pub expires : call ≡ Expire now
  pub item : Item
  pub queued : item_of work (base_of Global works.bases).items ≡ Some item
  pub due : item.wheel ≤ now

-- what holds after a list of calls
pub record IsWorkStory (replies : WorkReplies) (calls : List WorksCall) (start : WorksState)
    : Type 0 where
  -- each accepted queueing has an entry, whose number is its place
  pub accepted : length (works_after_calls replies calls start).ledger.story
      ≡ accepts_all replies calls start
  pub numbered : (number : ℕ) (told : WorkTold)
      → slice_get (works_after_calls replies calls start).ledger.story number ≡ Some told
      → told.0 ≡ number
  -- it is pending exactly where its work is pending by that number
  pub pending : (number : ℕ) (told : WorkTold)
      → slice_get (works_after_calls replies calls start).ledger.story number ≡ Some told
      → (told.2 ≡ Pending)
      ↔ (work_number_in (standing_of told.1 (works_after_calls replies calls start).ledger)
      ≡ Some number)
  -- each that ran was run by exactly one call, and whatever a call ran did run
  pub ran : (number : ℕ) (told : WorkTold)
      → slice_get (works_after_calls replies calls start).ledger.story number ≡ Some told
      → told.2 ≡ Ran → RanOnce replies calls start number told.1
  pub did_run : (i number work : ℕ) → RunsAt replies calls start i number work
      → slice_get (works_after_calls replies calls start).ledger.story number
      ≡ Some (number, work, Ran)
  -- a call of `run_next` answers the work that it runs
  pub answered : (i now : ℕ) → slice_get calls i ≡ Some (RunNext now)
      → option_map (λ (run : Run). run.0)
      (told_run replies now (works_before replies calls start i))
      ≡ option_map (λ (run : ℕ × ℕ). run.1)
      (runs (RunNext now) (works_before replies calls start i).ledger)
  -- a waiting work becomes ready only where its timer goes out, not before its wheel expiry
  pub not_early : (i work : ℕ) (call : WorksCall) → slice_get calls i ≡ Some call
      → is_work_waiting (standing_of work (works_before replies calls start i).ledger) ≡ true
      → is_ready (standing_of work
      (works_after_call replies call (works_before replies calls start i)).ledger) ≡ true
      → WentOut call (works_before replies calls start i) work

-- the delays that jobs answer have 32 bits
abbrev pub AreReplies : WorkReplies → Type 0
AreReplies replies =
    (job : ℕ) (call : JobCall) (class : Class) (delay : ℕ) → replies job call ≡ Again class delay
    → delay < 2 ^ 32

-- THE LAW: what every list of calls leaves, from new works on
abbrev pub WorksLaw : Type 0
WorksLaw =
    (replies : WorkReplies) (bases : CpuBases) (count : ℕ) (calls : List WorksCall)
    → AreReplies replies → IsConsistent bases → bases.bases ≡ empty_bases.bases
    → count ≤ MOST_TIMERS → MayMakeAll replies calls (new_works bases count)
    → IsWorkStory replies calls (new_works bases count)
