-- THE INTERRUPT of a CPU, as its pass tells it
use Rattle.std.specs.Prelude.{◌≡◌, ℕ, ◌+◌, ◌≤◌, Bool, false, not, List, [], ◌++◌, MatchResult}
use Rattle.std.specs.Prelude.{Result, length, map, Option, Some, None, nat_le, if◌then◌else◌}
use Rattle.atomic_table.specs.Seated.{TableId}
use Rattle.tm_base.specs.declared.faults.OpFault.{OpFault}
use Rattle.tm_base.specs.declared.faults.OpFault.TheVariants as faults
use Rattle.tm_base.specs.declared.names.Class.{Class}
use Rattle.cpu_bases.specs.declared.entry.Entry.{Entry}
use Rattle.tree_plan.specs.Paths.{level_count_of}
use Rattle.core_world.specs.World.{World, cpu_of}
use Rattle.job_table.specs.declared.jobs.JobCall.{JobCall}
use Rattle.job_table.specs.declared.jobs.JobReply.{JobReply}
use Rattle.walk_inactive.specs.shared_rule.declared.parts.Did.{Did}
use Rattle.walk_inactive.specs.shared_rule.declared.parts.PassView.{PassView}
use Rattle.walk_inactive.specs.shared_rule.declared.parts.Receipt.{Receipt}
use Rattle.walk_inactive.specs.shared_rule.Passes.{HeldPass, IsPassIn}
use Rattle.walk_inactive.specs.shared_rule.Shows.{BeginsWith}
use Rattle.shared_acts.specs.declared.runs.Ran.{Ran}
use Rattle.walk_inactive.specs.shared_table.declared.ready.TheConstants.{MOST_MADE}
use Rattle.shared_acts.specs.Following.{Follows}
use Rattle.shared_acts.specs.Looks.{LooksFrom}
pub use Rattle.shared_acts.specs.Interrupts.{HasTicked, KnowsOwn, most_walks, own_walk, walks_by}
use Rattle.remote_expiry.specs.Order.{RunsOwnFirst}
use Rattle.remote_expiry.specs.Stopping.{IsStopped}

-- what a pass has gained in an interrupt, whatever it answers: receipts and deeds at the ends; its
-- CPU is as idle as before and outside again, no mark is left, and just these walks were begun,
-- which are so many at most
pub record HasGained (p q : PassView) (receipts : List Receipt) (did : List Did) : Type 0 where
  pub opening : q.opening ≡ p.opening
  pub cpu : q.cpu ≡ p.cpu
  pub receipts_are : q.receipts ≡ p.receipts ++ receipts
  pub did_are : q.did ≡ p.did ++ did
  pub idle : q.idle ≡ p.idle
  pub inside : q.inside ≡ false
  pub reeval : q.reeval ≡ false
  pub marks : q.marks ≡ []
  pub journal : BeginsWith q.journal p.journal
  pub known : KnowsOwn p → KnowsOwn q
  pub walks_are :
      q.walks ≡ p.walks + (walks_by (map (λ (x : Did). x.deed) did) + own_walk p.idle)
  pub few : q.walks ≤ p.walks + most_walks

-- OK: each base of the CPU was drained; the timers that were handed out are the runs, in order,
-- with what became of their jobs' replies, by what the pass saw once each was handed out; and the
-- CPU has looked after the others, once its own bases were drained, pinned, global and deferrable
-- in this order
pub record HasInterrupted (o : World) (jobs : ℕ → JobCall → JobReply) (p q : PassView)
    (before after : List Ran) : Type 0 where
  pub receipts : List Receipt
  pub did : List Did
  pub runs : List Ran
  pub gained : HasGained p q receipts did
  pub runs_are : after ≡ before ++ runs
  pub drained : (class : Class) → HasTicked p.cpu class receipts
  pub follows : Follows o jobs p.cpu did (length p.receipts) receipts [] runs
  pub looked :
      LooksFrom o p.cpu receipts (level_count_of o.tree) 0 (map (λ (x : Did). x.deed) did)
  pub ordered : RunsOwnFirst o p.cpu (length p.receipts) receipts did

-- WANT OF MEMORY: the interrupt is closed as after Ok; what ran before stands in the runs and the
-- receipts, each with its job's reply; of the drain that found no room nothing went out, or all
-- that was due did, and then each timer has its run but for those that were to be armed again and
-- found no room; and nothing went out behind it
pub record HasStopped (o : World) (jobs : ℕ → JobCall → JobReply) (p q : PassView)
    (before after : List Ran) : Type 0 where
  pub receipts : List Receipt
  pub did : List Did
  pub runs : List Ran
  pub gained : HasGained p q receipts did
  pub runs_are : after ≡ before ++ runs
  pub stopped : IsStopped o jobs p.cpu did (length p.receipts) receipts runs

-- AT REST: a pass of the run, whose CPU isn't inside an interrupt, and has set no mark
pub record IsPassAtRest (o : World) (p : PassView) : Type 0 where
  pub opening : p.opening ≡ o
  pub outside : p.inside ≡ false
  pub goes_on : p.reeval ≡ false
  pub marks : p.marks ≡ []

-- why a CPU has no interrupt: it is offline, or too many walks were begun with its pass
abbrev pub interrupt_fault_of : (online : Bool) (walks : ℕ) → Option OpFault
interrupt_fault_of online walks =
    if not online then Some faults.Offline
    else (if nat_le MOST_MADE walks then Some (faults.Spent walks) else None)

-- the same by its pass, since no CPU goes offline or online in a run
abbrev pub interrupt_fault : PassView → Option OpFault
interrupt_fault p = interrupt_fault_of (cpu_of p.opening p.cpu).online p.walks

-- a refusal that came by the pass (no public clause cites it by itself)
pub record IsRefusedBy (p q : PassView) (before after : List Ran) (fault : OpFault) : Type 0 where
  pub fault_is : interrupt_fault p ≡ Some fault
  pub journal : List Entry
  pub known : BeginsWith journal p.journal
  pub pass_is : q ≡ record p { journal = journal }
  pub runs_are : after ≡ before

-- REFUSED, or broken off by want of memory: a refusal comes exactly by the pass, and then what the
-- pass knows of its CPU's journal is all that has changed
abbrev pub NotInterrupted : World → (ℕ → JobCall → JobReply) → (p q : PassView)
    → (before after : List Ran) → OpFault → Type 0
NotInterrupted o jobs p q before after faults.NoMemory =
    (interrupt_fault p ≡ None) × HasStopped o jobs p q before after
NotInterrupted o jobs p q before after faults.Offline = IsRefusedBy p q before after faults.Offline
NotInterrupted o jobs p q before after (faults.Spent made) =
    IsRefusedBy p q before after (faults.Spent made)
NotInterrupted o jobs p q before after faults.NotActive = ⊥
NotInterrupted o jobs p q before after faults.NotIdle = ⊥
NotInterrupted o jobs p q before after faults.AlreadyOnline = ⊥
NotInterrupted o jobs p q before after faults.LastOnline = ⊥
NotInterrupted o jobs p q before after (faults.Queued cpu) = ⊥

-- WHAT AN INTERRUPT TELLS, by the pass before and after
pub record Tells (table : TableId) (o : World) (jobs : ℕ → JobCall → JobReply)
    (held after : HeldPass) (before now : List Ran) (result : Result (Unit {0}) OpFault) : Type 0
  where
    pub old : PassView
    pub new : PassView
    pub had : IsPassIn table held old
    pub has : IsPassIn table after new
    pub told : MatchResult result
        (λ done. (interrupt_fault old ≡ None) × HasInterrupted o jobs old new before now)
        (NotInterrupted o jobs old new before now)
