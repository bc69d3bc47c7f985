-- the rounds of a look, and an interrupt's beginning and end, as the holder of the pass sees them
-- (no public clause cites it)
use Rattle.std.specs.Prelude.{◌≡◌, ℕ, ◌<◌, ◌≤◌, ◌⊎◌, Bool, true, false, List, [], ◌∷◌, None, Some}
use Rattle.std.specs.Prelude.{◌++◌}
use Rattle.std.specs.Prelude.{length, map, MatchResult, Result}
use Rattle.std.specs.FinSet.{insert}
use Rattle.tm_base.specs.CpuSet.{Contains, Cpus}
use Rattle.event_queue.specs.EventMap.{IsTakenUp, NoneFits}
use Rattle.walk_rules.specs.Hierarchy.{side}
use Rattle.shared_acts.specs.shared_looks.Sights.{LooksBy, events_in, slot_looks, state_look}
use Rattle.remote_expiry.specs.declared.looking.Round.{Round}
use Rattle.remote_expiry.specs.declared.looking.Round.TheVariants as rounds
use Rattle.atomic_table.specs.Seated.{TableId}
use Rattle.tm_base.specs.declared.faults.OpFault.{OpFault}
use Rattle.tm_base.specs.declared.faults.OpFault.TheVariants as faults
use Rattle.tm_base.specs.declared.names.Class.{Class}
use Rattle.tm_base.specs.declared.names.Class.TheVariants.{Deferrable, Global, Pinned}
use Rattle.tree_plan.specs.Paths.{group_at_of, level_count_of}
use Rattle.core_world.specs.World.{World}
use Rattle.job_table.specs.declared.jobs.JobCall.{JobCall}
use Rattle.job_table.specs.declared.jobs.JobReply.{JobReply}
use Rattle.walk_inactive.specs.shared_rule.declared.parts.Deed.{Deed}
use Rattle.walk_inactive.specs.shared_rule.declared.parts.Did.{Did}
use Rattle.walk_inactive.specs.shared_rule.declared.parts.PassView.{PassView}
use Rattle.walk_inactive.specs.shared_rule.declared.parts.Receipt.{Receipt}
use Rattle.walk_inactive.specs.shared_rule.Passes.{HeldPass, IsPassIn}
use Rattle.shared_acts.specs.declared.runs.Ran.{Ran}
use Rattle.shared_acts.specs.Interrupts.{HasTicked}
use Rattle.shared_acts.specs.Looks.{HasLookEnded, HasLookedAtGroup, IsTried, LooksFrom, saw}
use Rattle.shared_acts.specs.Pieces.{PassGains, Piece, Works, deeds_of}
use Rattle.shared_acts.specs.Tries.{HasClosed}
use Rattle.remote_expiry.specs.Order.{BeginsWhere, IsWholeDrain, RunsOwnFirst}
use Rattle.remote_expiry.specs.Running.{IsWider}
use Rattle.remote_expiry.specs.Stopping.{IsStopped}
use Rattle.remote_expiry.specs.Interrupts.{IsPassAtRest, interrupt_fault}

-- WANT OF MEMORY, with at most so many walks begun
pub record StopsPass (table : TableId) (o : World) (jobs : ℕ → JobCall → JobReply) (most : ℕ)
    (held after : HeldPass) (before now : List Ran) : Type 0 where
  pub walks : ℕ
  pub few : walks ≤ most
  pub receipts : List Receipt
  pub did : List Did
  pub told : List Ran
  pub piece : Piece table held after receipts did walks
  pub runs_are : now ≡ before ++ told
  pub stopped : (seen : List Did) → IsWider did seen →
      IsStopped o jobs held.cpu seen (length piece.before.receipts) receipts told

-- the first of these deeds was done when the pass had the receipts that it has here, or more
abbrev pub BeginsFrom : TableId → HeldPass → List Did → Type 0
BeginsFrom table held did =
    (p : PassView) → IsPassIn table held p → BeginsWhere (length p.receipts) did

-- ONE ROUND of a look: a CPU of the run that wasn't tried yet was tried, after loads
pub record TriesOne (table : TableId) (o : World) (jobs : ℕ → JobCall → JobReply)
    (old new : Cpus) (held after : HeldPass) (before now : List Ran) : Type 0 where
  pub due : ℕ
  pub of_run : due < length o.cpus
  pub untried : Contains old due → ⊥
  pub added : new ≡ insert old due
  pub walks : ℕ
  pub receipts : List Receipt
  pub did : List Did
  pub few : walks ≤ 1
  pub works : Works table o jobs held after before now walks receipts did
  pub tried : IsTried o held.cpu (deeds_of did) receipts due
  pub begins : BeginsFrom table held did

-- ONE ROUND that was broken off, as a CPU of the run that wasn't tried yet was being tried
pub record BreaksRound (table : TableId) (o : World) (jobs : ℕ → JobCall → JobReply) (old : Cpus)
    (held after : HeldPass) (before now : List Ran) : Type 0 where
  pub due : ℕ
  pub of_run : due < length o.cpus
  pub untried : Contains old due → ⊥
  pub off : StopsPass table o jobs 1 held after before now

-- the last round showed nothing due and untried
pub record SeesNothing (table : TableId) (o : World) (level : ℕ) (tried : Cpus)
    (held after : HeldPass) : Type 0 where
  pub did : List Did
  pub piece : Piece table held after [] did 0
  pub group : ℕ
  pub path : group_at_of o.tree held.cpu level ≡ Some group
  pub word : ℕ
  pub looks : LooksBy word (side o.tree held.cpu level)
  pub founds : List ℕ
  pub eight : length founds ≡ 8
  pub loads : deeds_of did ≡ map saw (state_look o group word ∷ slot_looks o group 0 founds)
  pub none : NoneFits (IsTakenUp o.clock tried) (events_in founds)
  pub begins : BeginsFrom table held did

-- or there is no group, or another CPU looks after it
pub record SeesEnd (table : TableId) (o : World) (level : ℕ) (held after : HeldPass) : Type 0 where
  pub did : List Did
  pub piece : Piece table held after [] did 0
  pub end : (group_at_of o.tree held.cpu level ≡ None)
      ⊎ HasLookEnded o held.cpu level (deeds_of did)
  pub begins : BeginsFrom table held did

-- what a round came to
abbrev pub IsLookRound : TableId → World → (ℕ → JobCall → JobReply) → (level : ℕ) → (old new : Cpus)
    → (held after : HeldPass) → (before now : List Ran) → Round → Type 0
IsLookRound table o jobs level old new held after before now rounds.Again =
    TriesOne table o jobs old new held after before now
IsLookRound table o jobs level old new held after before now rounds.Up =
    SeesNothing table o level old held after × (now ≡ before)
IsLookRound table o jobs level old new held after before now rounds.Done =
    SeesEnd table o level held after × (now ≡ before)

-- a look at the group of a level has come to its end: it goes on further upwards, or there is no
-- group, or another CPU looks after it
abbrev pub LooksAtLevel : World → (looker level : ℕ) → List Receipt → List Deed → (further : Bool)
    → Type 0
LooksAtLevel o looker level receipts did true = HasLookedAtGroup o looker level receipts did []
LooksAtLevel o looker level receipts did false =
    (group_at_of o.tree looker level ≡ None) ⊎ HasLookEnded o looker level did

-- THE ROUNDS of a level: at most as many CPUs were tried as there are
pub record HasRounds (table : TableId) (o : World) (jobs : ℕ → JobCall → JobReply) (level : ℕ)
    (held after : HeldPass) (before now : List Ran) (further : Bool) : Type 0 where
  pub walks : ℕ
  pub receipts : List Receipt
  pub did : List Did
  pub few : walks ≤ 512
  pub works : Works table o jobs held after before now walks receipts did
  pub looked : LooksAtLevel o held.cpu level receipts (deeds_of did) further
  pub begins : BeginsFrom table held did

-- THE LEVELS, from the leaf upwards
pub record HasClimbedLevels (table : TableId) (o : World) (jobs : ℕ → JobCall → JobReply)
    (held after : HeldPass) (before now : List Ran) : Type 0 where
  pub walks : ℕ
  pub receipts : List Receipt
  pub did : List Did
  pub few : walks ≤ 1536
  pub works : Works table o jobs held after before now walks receipts did
  pub looked : LooksFrom o held.cpu receipts (level_count_of o.tree) 0 (deeds_of did)
  pub begins : BeginsFrom table held did

-- A DRAIN of an own base of the pass's CPU, with the jobs of what went out
pub record DrainsOwn (table : TableId) (o : World) (jobs : ℕ → JobCall → JobReply)
    (class : Class) (held after : HeldPass) (before now : List Ran) : Type 0 where
  pub receipts : List Receipt
  pub did : List Did
  pub works : Works table o jobs held after before now 0 receipts did
  pub ticked : HasTicked held.cpu class receipts
  pub whole : IsWholeDrain held.cpu held.cpu class receipts

-- THE DRAINS of the CPU's own bases, in the kernel's order, and no walk
pub record HasDrainedAll (table : TableId) (o : World) (jobs : ℕ → JobCall → JobReply)
    (held after : HeldPass) (before now : List Ran) : Type 0 where
  pub receipts : List Receipt
  pub did : List Did
  pub works : Works table o jobs held after before now 0 receipts did
  pub drained : (class : Class) → HasTicked held.cpu class receipts
  pub pinned : List Receipt
  pub global : List Receipt
  pub deferrable : List Receipt
  pub receipts_are : receipts ≡ pinned ++ (global ++ deferrable)
  pub of_pinned : IsWholeDrain held.cpu held.cpu Pinned pinned
  pub of_global : IsWholeDrain held.cpu held.cpu Global global
  pub of_deferrable : IsWholeDrain held.cpu held.cpu Deferrable deferrable

-- ALL WORK of an interrupt
pub record HasWorked (table : TableId) (o : World) (jobs : ℕ → JobCall → JobReply)
    (held after : HeldPass) (before now : List Ran) : Type 0 where
  pub walks : ℕ
  pub receipts : List Receipt
  pub did : List Did
  pub few : walks ≤ 1536
  pub works : Works table o jobs held after before now walks receipts did
  pub drained : (class : Class) → HasTicked held.cpu class receipts
  pub looked : LooksFrom o held.cpu receipts (level_count_of o.tree) 0 (deeds_of did)
  pub ordered : (p : PassView) → IsPassIn table held p →
      RunsOwnFirst o held.cpu (length p.receipts) receipts did

-- a pass of the run, at rest
pub record IsEnterable (table : TableId) (o : World) (held : HeldPass) : Type 0 where
  pub pass : PassView
  pub seated : IsPassIn table held pass
  pub rest : IsPassAtRest o pass
  pub cpu : pass.cpu < length o.cpus

-- ENTERED: nothing refuses it, and the CPU is inside its interrupt
pub record HasEntered (table : TableId) (o : World) (held after : HeldPass) : Type 0 where
  pub before : PassView
  pub later : PassView
  pub had : IsPassIn table held before
  pub has : IsPassIn table after later
  pub cpu : after.cpu ≡ held.cpu
  pub free : interrupt_fault before ≡ None
  pub gains : PassGains (record before { inside = true }) later [] [] 0

-- or the pass is as it was, and this refuses the interrupt
pub record IsRefusedIn (table : TableId) (held after : HeldPass) (fault : OpFault) : Type 0 where
  pub before : PassView
  pub had : IsPassIn table held before
  pub same : after ≡ held
  pub fault_is : interrupt_fault before ≡ Some fault

-- what becomes of entering: the CPU is inside its interrupt, or is refused
abbrev pub IsEntered : TableId → World → (held after : HeldPass) → Result (Unit {0}) OpFault
    → Type 0
IsEntered table o held after result =
    MatchResult result (λ done. HasEntered table o held after) (IsRefusedIn table held after)

-- DONE: all work and then the end, or work that was broken off, and the end all the same
abbrev pub IsExpiryDone : TableId → World → (ℕ → JobCall → JobReply) → (held after : HeldPass)
    → (before now : List Ran) → Result (Unit {0}) OpFault → Type 0
IsExpiryDone table o jobs held after before now result =
    MatchResult result
    (λ done. (mid : HeldPass) × HasWorked table o jobs held mid before now
    × HasClosed table mid after)
    (λ e. (e ≡ faults.NoMemory)
    × ((mid : HeldPass) × StopsPass table o jobs 1536 held mid before now
    × HasClosed table mid after))
