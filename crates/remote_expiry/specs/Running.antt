-- one timer whose job is run, and what is written as it is armed again (no public clause cites it)
use Rattle.std.specs.Prelude.{◌≡◌, ℕ, ◌+◌, ◌<◌, List, [], ◌∷◌, ◌++◌, Option, Some, None, length}
use Rattle.std.specs.Prelude.{Contains}
use Rattle.atomic_table.specs.Seated.{TableId}
use Rattle.tm_base.specs.declared.faults.OpFault.{OpFault}
use Rattle.tm_base.specs.declared.faults.OpFault.TheVariants as faults
use Rattle.tm_base.specs.declared.names.Class.{Class}
use Rattle.tm_base.specs.declared.names.CpuId.{CpuId}
use Rattle.wheel_core.specs.declared.item.Item.{Item}
use Rattle.cpu_bases.specs.declared.entry.Act.TheVariants.{Armed}
use Rattle.core_world.specs.World.{World}
use Rattle.walk_inactive.specs.core_state.Shown.{as_cpu}
use Rattle.job_table.specs.declared.jobs.JobCall.{JobCall}
use Rattle.job_table.specs.declared.jobs.JobReply.{JobReply}
use Rattle.job_table.specs.declared.jobs.JobReply.TheVariants as replies
use Rattle.walk_inactive.specs.shared_rule.declared.parts.Did.{Did}
use Rattle.walk_inactive.specs.shared_rule.declared.parts.Receipt.{Receipt}
use Rattle.walk_inactive.specs.shared_rule.Passes.{HeldPass}
use Rattle.shared_acts.specs.declared.runs.Ran.{Ran}
use Rattle.shared_acts.specs.declared.runs.RanReply.{RanReply}
use Rattle.shared_acts.specs.declared.runs.RanReply.TheVariants as ran
use Rattle.shared_acts.specs.Following.{IsHandOutTold}
use Rattle.shared_acts.specs.Pieces.{HandsOutItems, Piece, RanAll}
use Rattle.remote_expiry.specs.Order.{AreArmings}
use Rattle.remote_expiry.specs.Stopping.{AsksAgain, FollowsInPart}

-- the CPU that a refusal to arm names
abbrev pub holder_told : OpFault → Option CpuId
holder_told (faults.Queued cpu) = Some cpu
holder_told faults.NoMemory = None
holder_told faults.NotActive = None
holder_told faults.NotIdle = None
holder_told faults.Offline = None
holder_told faults.AlreadyOnline = None
holder_told faults.LastOnline = None
holder_told (faults.Spent made) = None

-- what the job of a timer is told that went out
abbrev pub call_to : (now runner : ℕ) → Item → JobCall
call_to now runner i =
    record { timer = record { 0 = i.id }; arg = i.arg; now = now; runner = as_cpu runner }

-- ARMED AGAIN: the receipt of a timer that its job asked for, as it was armed for a delay from now
pub record IsRearmed (now runner : ℕ) (i : Item) (class : Class) (delay wheel : ℕ) (r : Receipt)
    : Type 0 where
  pub act : r.entry.act ≡ Armed
  pub cpu : r.cpu.0 ≡ runner
  pub line : r.entry.line ≡ 0
  pub timer : r.entry.timer.0 ≡ i.id
  pub expires : r.entry.expires ≡ now + delay
  pub of_class : r.entry.class ≡ class
  pub told : r.entry.wheel ≡ wheel
  pub job : r.entry.job ≡ i.job
  pub arg : r.entry.arg ≡ i.arg

-- what is written after a job's reply: a receipt exactly where the timer was armed again
abbrev pub ArmsAgain : (now runner : ℕ) → Item → JobReply → RanReply → List Receipt → Type 0
ArmsAgain now runner i replies.Done reply rs = rs ≡ []
ArmsAgain now runner i (replies.Mark m) reply rs = rs ≡ []
ArmsAgain now runner i (replies.Again class delay) ran.Done rs = rs ≡ []
ArmsAgain now runner i (replies.Again class delay) (ran.Mark m) rs = rs ≡ []
ArmsAgain now runner i (replies.Again class delay) (ran.Again c wheel) rs =
    (r : Receipt) × (rs ≡ r ∷ []) × IsRearmed now runner i c delay wheel r
ArmsAgain now runner i (replies.Again class delay) (ran.Skip cpu) rs = rs ≡ []

-- ANSWERED: what a job replied was done, and this is to be told of a hand-out whose receipt the
-- pass had before; where the timer was queued by then the pass saw on which CPU
pub record HasAnsweredJob (table : TableId) (o : World) (i : Item) (job : JobReply)
    (held after : HeldPass) (reply : RanReply) : Type 0 where
  pub receipts : List Receipt
  pub did : List Did
  pub piece : Piece table held after receipts did 0
  pub told : (place : ℕ) → place < length piece.before.receipts →
      IsHandOutTold o i.id place did job reply
  pub arms : ArmsAgain o.clock held.cpu i job reply receipts

-- a run is told of a timer that went out of a CPU's base
pub record IsRunFromBase (home : ℕ) (i : Item) (x : Ran) : Type 0 where
  pub timer : x.timer.0 ≡ i.id
  pub at : x.home.0 ≡ home
  pub wheel : x.wheel ≡ i.wheel

-- and it tells what the job replied, after a hand-out whose receipt is one of the first so many
pub record IsRan (o : World) (jobs : ℕ → JobCall → JobReply) (home runner count : ℕ)
    (seen : List Did) (i : Item) (x : Ran) : Type 0 where
  pub is : IsRunFromBase home i x
  pub told : (place : ℕ) → place < count →
      IsHandOutTold o i.id place seen (jobs i.job (call_to o.clock runner i)) x.reply

-- ONE JOB was run, and told
pub record HasRunJob (table : TableId) (o : World) (jobs : ℕ → JobCall → JobReply) (home : ℕ)
    (i : Item) (held after : HeldPass) (x : Ran) : Type 0 where
  pub receipts : List Receipt
  pub did : List Did
  pub piece : Piece table held after receipts did 0
  pub is : IsRan o jobs home held.cpu (length piece.before.receipts) did i x
  pub arms :
      ArmsAgain o.clock held.cpu i (jobs i.job (call_to o.clock held.cpu i)) x.reply receipts

-- and the run is the last of the list
pub record HasToldRun (table : TableId) (o : World) (jobs : ℕ → JobCall → JobReply) (home : ℕ)
    (i : Item) (held after : HeldPass) (before now : List Ran) : Type 0 where
  pub run : Ran
  pub has : HasRunJob table o jobs home i held after run
  pub runs_are : now ≡ before ++ run ∷ []

-- NO ROOM for an arming: nothing was armed, and nothing is told, of a timer that was to be armed
-- again
pub record HasToldNone (table : TableId) (o : World) (jobs : ℕ → JobCall → JobReply) (i : Item)
    (held after : HeldPass) (before now : List Ran) : Type 0 where
  pub piece : Piece table held after [] [] 0
  pub runs_are : now ≡ before
  pub asked : AsksAgain (jobs i.job (call_to o.clock held.cpu i))

-- what is seen is so among more
abbrev pub IsWider : (seen wider : List Did) → Type 0
IsWider seen wider = (d : Did) → Contains seen d → Contains wider d

-- JOBS RUN, with the receipts of what they asked for: armings alone
abbrev pub RanAllArming : TableId → World → (ℕ → JobCall → JobReply) → (home : ℕ) → List Item
    → (held after : HeldPass) → (before now : List Ran) → Type 0
RanAllArming table o jobs home items held after before now =
    (ran : RanAll table o jobs home items held after before now) × AreArmings ran.receipts

-- JOBS RUN where memory was wanting for armings: each timer is told, but for those that were to be
-- armed again and found no room
pub record RanInPart (table : TableId) (o : World) (jobs : ℕ → JobCall → JobReply) (home : ℕ)
    (items : List Item) (held after : HeldPass) (before now : List Ran) : Type 0 where
  pub receipts : List Receipt
  pub did : List Did
  pub told : List Ran
  pub piece : Piece table held after receipts did 0
  pub runs_are : now ≡ before ++ told
  pub armed : AreArmings receipts
  pub follows : (seen : List Did) → IsWider did seen → (class : Class) (outs : List Receipt)
      (place : ℕ) → place + length outs ≡ length piece.before.receipts →
      HandsOutItems home held.cpu class items outs →
      FollowsInPart o jobs held.cpu seen place (outs ++ receipts) [] told
