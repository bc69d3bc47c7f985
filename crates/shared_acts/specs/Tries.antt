-- a try of a CPU, mark by mark, and the end of an interrupt, as the holder of the pass sees them
use Rattle.std.specs.Prelude.{◌≡◌, ℕ, ◌+◌, ◌^◌, ◌<◌, ◌≤◌, Bool, true, false, List, [], ◌∷◌, ◌++◌}
use Rattle.std.specs.Prelude.{All, length}
use Rattle.atomic_table.specs.Seated.{TableId}
use Rattle.tm_base.specs.declared.names.Class.TheVariants.{Global}
use Rattle.wheel_core.specs.declared.item.Item.{Item}
use Rattle.core_world.specs.World.{World}
use Rattle.job_table.specs.declared.jobs.JobCall.{JobCall}
use Rattle.job_table.specs.declared.jobs.JobReply.{JobReply}
use Rattle.shared_timers.specs.shared_rule.declared.parts.Deed.{Deed}
use Rattle.shared_timers.specs.shared_rule.declared.parts.Deed.TheVariants as deeds
use Rattle.shared_timers.specs.shared_rule.declared.parts.Did.{Did}
use Rattle.shared_timers.specs.shared_rule.declared.parts.PassView.{PassView}
use Rattle.shared_timers.specs.shared_rule.declared.parts.Receipt.{Receipt}
use Rattle.shared_timers.specs.shared_rule.Parts.{HeldPart}
use Rattle.shared_timers.specs.shared_rule.Passes.{HeldPass, IsPassIn}
use Rattle.shared_timers.specs.shared_rule.Shows.{BeginsWith}
use Rattle.shared_acts.specs.declared.runs.Ran.{Ran}
use Rattle.shared_acts.specs.Interrupts.{KnowsOwn, own_walk}
use Rattle.shared_acts.specs.Looks.{IsClosed, IsLeftAlone, IsTried}
use Rattle.shared_acts.specs.Pieces.{Breaks, HandsOutItems, IsInside, IsTimerOfRun, PassGains}
use Rattle.shared_acts.specs.Pieces.{Piece, Works}
use Rattle.shared_acts.specs.Pieces.{deeds_of}

-- AT WORK: a pass of the run whose CPU is inside its interrupt and has set these marks, and with
-- which so many walks more may begin
pub record AtWork (table : TableId) (o : World) (marks : List ℕ) (left : ℕ) (held : HeldPass)
    : Type 0 where
  pub pass : PassView
  pub seated : IsPassIn table held pass
  pub is : IsInside o pass
  pub marked : pass.marks ≡ marks
  pub few : pass.walks + left < 2 ^ 32

-- the pass with these marks
abbrev pub with_marks : List ℕ → PassView → PassView
with_marks marks p = record p { marks = marks }

-- a part with the CPU, the bases and the room that it had
pub record KeepsBases (old new : HeldPart) : Type 0 where
  pub cpu : new.box.cpu ≡ old.box.cpu
  pub bases : new.box.own.bases ≡ old.box.own.bases
  pub room : new.room ≡ old.room

-- MARKED: what a pass has gained as it set the mark of a CPU
pub record HasMarked (table : TableId) (d : ℕ) (held after : HeldPass) : Type 0 where
  pub before : PassView
  pub later : PassView
  pub had : IsPassIn table held before
  pub has : IsPassIn table after later
  pub cpu : after.cpu ≡ held.cpu
  pub room : after.room ≡ held.room
  pub did : List Did
  pub gains : PassGains (with_marks (d ∷ []) before) later [] did 0
  pub just : deeds_of did ≡ deeds.Took d ∷ []

-- UNMARKED: the pass has no mark any more, by this deed, and at most one walk was begun
pub record HasUnmarked (table : TableId) (by : Deed) (held after : HeldPass) : Type 0 where
  pub before : PassView
  pub later : PassView
  pub had : IsPassIn table held before
  pub has : IsPassIn table after later
  pub cpu : after.cpu ≡ held.cpu
  pub did : List Did
  pub walks : ℕ
  pub few : walks ≤ 1
  pub gains : PassGains (with_marks [] before) later [] did walks
  pub just : deeds_of did ≡ by ∷ []

-- TAKEN: what a pass has gained as it set the mark of a CPU, after some loads, and then handed
-- these timers out of that CPU's global base
pub record HasTakenTimers (table : TableId) (o : World) (d : ℕ) (items : List Item)
    (held after : HeldPass) : Type 0 where
  pub before : PassView
  pub later : PassView
  pub had : IsPassIn table held before
  pub has : IsPassIn table after later
  pub cpu : after.cpu ≡ held.cpu
  pub receipts : List Receipt
  pub did : List Did
  pub gains : PassGains (with_marks (d ∷ []) before) later receipts did 0
  pub outs : HandsOutItems d held.cpu Global items receipts
  pub loads : List Deed
  pub ends : deeds_of did ≡ loads ++ deeds.Took d ∷ []

-- LEFT ALONE: the pass saw why
pub record HasLeftAlone (table : TableId) (o : World) (d : ℕ) (held after : HeldPass) : Type 0 where
  pub did : List Did
  pub piece : Piece table held after [] did 0
  pub left : IsLeftAlone o held.cpu d (deeds_of did)

-- either: a CPU is marked where that may be
abbrev pub TakesOrLeaves : TableId → World → (d : ℕ) → List Item → (held after : HeldPass) → Bool
    → Type 0
TakesOrLeaves table o d items held after true = HasTakenTimers table o d items held after
TakesOrLeaves table o d items held after false = HasLeftAlone table o d held after

-- the timers handed out are of the run, and in what is told there is a place for each
pub record IsRunnable (o : World) (items : List Item) (told room : ℕ) : Type 0 where
  pub timers : All (IsTimerOfRun o) items
  pub places : told + length items ≤ room

-- LET GO: the pass has no mark any more, and what it did closes the try, whatever came between (no
-- public clause cites it)
pub record HasLetGo (table : TableId) (o : World) (d : ℕ) (held after : HeldPass) : Type 0 where
  pub before : PassView
  pub later : PassView
  pub had : IsPassIn table held before
  pub has : IsPassIn table after later
  pub cpu : after.cpu ≡ held.cpu
  pub did : List Did
  pub walks : ℕ
  pub few : walks ≤ 1
  pub gains : PassGains (with_marks [] before) later [] did walks
  pub closed : (front between : List Deed)
      → IsClosed o d (front ++ deeds.Took d ∷ between ++ deeds_of did)

-- BROKEN OFF by want of memory, with at most so many walks begun (no public clause cites it)
pub record BreaksOffPass (table : TableId) (most : ℕ) (held after : HeldPass)
    (before now : List Ran)
    : Type 0 where
  pub walks : ℕ
  pub few : walks ≤ most
  pub breaks : Breaks table held after before now walks

-- TRIED: a CPU was served, with the jobs of what went out, or left alone (no public clause cites
-- it)
pub record HasTried (table : TableId) (o : World) (jobs : ℕ → JobCall → JobReply) (d : ℕ)
    (held after : HeldPass) (before now : List Ran) : Type 0 where
  pub walks : ℕ
  pub receipts : List Receipt
  pub did : List Did
  pub few : walks ≤ 1
  pub works : Works table o jobs held after before now walks receipts did
  pub tried : IsTried o held.cpu (deeds_of did) receipts d

-- LEFT AGAIN: the CPU is outside its interrupt, and one walk was begun where it is idle
pub record HasClosed (table : TableId) (held after : HeldPass) : Type 0 where
  pub before : PassView
  pub later : PassView
  pub had : IsPassIn table held before
  pub has : IsPassIn table after later
  pub cpu : after.cpu ≡ held.cpu
  pub opening : later.opening ≡ before.opening
  pub same_cpu : later.cpu ≡ before.cpu
  pub walks_are : later.walks ≡ before.walks + own_walk before.idle
  pub receipts_are : later.receipts ≡ before.receipts
  pub did_are : later.did ≡ before.did
  pub idle : later.idle ≡ before.idle
  pub inside : later.inside ≡ false
  pub reeval : later.reeval ≡ false
  pub marks : later.marks ≡ before.marks
  pub journal : BeginsWith later.journal before.journal
  pub known : KnowsOwn before → KnowsOwn later
