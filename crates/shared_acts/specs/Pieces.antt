-- an interrupt, piece by piece: what its pass gains, and what stays
use Rattle.std.specs.Prelude.{◌≡◌, ℕ, ◌+◌, ◌^◌, ◌<◌, ◌≤◌, true, false, List, [], ◌∷◌, ◌++◌}
use Rattle.std.specs.Prelude.{length, map}
use Rattle.atomic_table.specs.Seated.{TableId}
use Rattle.tm_base.specs.declared.names.Class.{Class}
use Rattle.wheel_core.specs.declared.item.Item.{Item}
use Rattle.cpu_bases.specs.CpuBases.{base_of}
use Rattle.cpu_bases.specs.declared.entry.Act.TheVariants.{Handed, Ticked}
use Rattle.core_world.specs.World.{World, cpu_of}
use Rattle.job_table.specs.declared.jobs.JobCall.{JobCall}
use Rattle.job_table.specs.declared.jobs.JobReply.{JobReply}
use Rattle.shared_timers.specs.shared_rule.declared.parts.Deed.{Deed}
use Rattle.shared_timers.specs.shared_rule.declared.parts.Did.{Did}
use Rattle.shared_timers.specs.shared_rule.declared.parts.PassView.{PassView}
use Rattle.shared_timers.specs.shared_rule.declared.parts.Receipt.{Receipt}
use Rattle.shared_timers.specs.shared_rule.Parts.{HeldPart}
use Rattle.shared_timers.specs.shared_rule.Passes.{HeldPass, IsPassIn, receipts_of}
use Rattle.shared_timers.specs.shared_rule.Shows.{BeginsWith}
use Rattle.shared_acts.specs.declared.runs.Ran.{Ran}
use Rattle.shared_acts.specs.Following.{Follows, RunsOfSome}
use Rattle.shared_acts.specs.Interrupts.{HasTicked, KnowsOwn, walks_by}

-- INSIDE: a pass of the run, whose CPU is online and inside its interrupt, and doesn't re-evaluate
pub record IsInside (o : World) (p : PassView) : Type 0 where
  pub opening : p.opening ≡ o
  pub cpu : p.cpu < length o.cpus
  pub online : (cpu_of o p.cpu).online ≡ true
  pub inside : p.inside ≡ true
  pub goes_on : p.reeval ≡ false

-- the same of a pass as its holder sees it (no public clause cites it)
pub record HeldInside (table : TableId) (o : World) (held : HeldPass) : Type 0 where
  pub pass : PassView
  pub seated : IsPassIn table held pass
  pub is : IsInside o pass

-- THE PASS AFTER A PIECE: these receipts and deeds stand behind the others, and so many walks more
-- were begun, those that the deeds ended; the journal of its CPU may be known further, and the rest
-- is as before
pub record PassGains (p q : PassView) (receipts : List Receipt) (did : List Did) (walks : ℕ)
    : Type 0
  where
    pub opening : q.opening ≡ p.opening
    pub cpu : q.cpu ≡ p.cpu
    pub walks_are : q.walks ≡ p.walks + walks
    pub ended : walks ≡ walks_by (map (λ (x : Did). x.deed) did)
    pub receipts_are : q.receipts ≡ p.receipts ++ receipts
    pub did_are : q.did ≡ p.did ++ did
    pub idle : q.idle ≡ p.idle
    pub inside : q.inside ≡ p.inside
    pub reeval : q.reeval ≡ p.reeval
    pub wakeup : q.wakeup ≡ p.wakeup
    pub marks : q.marks ≡ p.marks
    pub journal : BeginsWith q.journal p.journal
    pub known : KnowsOwn p → KnowsOwn q

-- A PIECE, as the holder of the pass sees it
pub record Piece (table : TableId) (held after : HeldPass) (receipts : List Receipt)
    (did : List Did) (walks : ℕ) : Type 0 where
  pub before : PassView
  pub later : PassView
  pub had : IsPassIn table held before
  pub has : IsPassIn table after later
  pub cpu : after.cpu ≡ held.cpu
  pub gains : PassGains before later receipts did walks

-- the deeds of a piece, without when they were done
abbrev pub deeds_of : List Did → List Deed
deeds_of did = map (λ (x : Did). x.deed) did

-- HANDED OUT: the receipt of a timer that went out of a CPU's base of a class, to be run by a CPU
pub record IsHandOut (home runner : ℕ) (class : Class) (i : Item) (r : Receipt) : Type 0 where
  pub cpu : r.cpu.0 ≡ home
  pub act : r.entry.act ≡ Handed
  pub by : r.entry.by.0 ≡ runner
  pub of_class : r.entry.class ≡ class
  pub timer : r.entry.timer.0 ≡ i.id
  pub expires : r.entry.expires ≡ i.expires
  pub wheel : r.entry.wheel ≡ i.wheel
  pub job : r.entry.job ≡ i.job
  pub arg : r.entry.arg ≡ i.arg

-- DRAINED: the receipt of a CPU's base of a class that has nothing due any more
pub record IsTick (home runner : ℕ) (class : Class) (r : Receipt) : Type 0 where
  pub cpu : r.cpu.0 ≡ home
  pub act : r.entry.act ≡ Ticked
  pub by : r.entry.by.0 ≡ runner
  pub of_class : r.entry.class ≡ class

-- a timer of the run, as it goes out of a base
pub record IsTimerOfRun (o : World) (i : Item) : Type 0 where
  pub known : i.id < o.timers
  pub narrow : i.id < 2 ^ 16

-- A DRAIN: the receipts of all that went out, in order, and then that the base was drained
unfoldable pub HandsOutItems : (home runner : ℕ) → Class → List Item → List Receipt → Type 0
HandsOutItems home runner class [] receipts =
    (r : Receipt) × (receipts ≡ r ∷ []) × IsTick home runner class r
HandsOutItems home runner class (i ∷ is) [] = ⊥
HandsOutItems home runner class (i ∷ is) (r ∷ rs) =
    IsHandOut home runner class i r × HandsOutItems home runner class is rs

-- ROOM for a whole drain of a class: in the journal and with the pass an entry and a receipt for
-- each timer and one more, and in a list a place for each timer
pub record HasDrainRoom (class : Class) (part : HeldPart) (held : HeldPass) (places : ℕ) : Type 0
  where
    pub entries : length part.box.own.bases.journal
        + length (base_of class part.box.own.bases).items < part.room.entries
    pub receipts : length (receipts_of held.seated)
        + length (base_of class part.box.own.bases).items < held.room
    pub listed : length (base_of class part.box.own.bases).items ≤ places

-- a part of which nothing but the bases has changed, and no pass is brought
abbrev pub but_for_bases : (old new : HeldPart) → Type 0
but_for_bases old new = new ≡ record old {
  box = record old.box { own = record old.box.own { bases = new.box.own.bases } };
  brought = [];
  receipts_room = 0;
}

-- JOBS RUN: those of timers that went out of a CPU's base, each once, in order. What the pass
-- gained is the armings that they asked for, and what it saw of timers that were queued by then:
-- behind the receipts of the hand-outs, which were its last before, that leaves nothing to be armed
-- (no public clause cites it)
pub record RanAll (table : TableId) (o : World) (jobs : ℕ → JobCall → JobReply) (home : ℕ)
    (items : List Item) (held after : HeldPass) (before now : List Ran) : Type 0 where
  pub receipts : List Receipt
  pub did : List Did
  pub told : List Ran
  pub piece : Piece table held after receipts did 0
  pub runs_are : now ≡ before ++ told
  pub follows : (class : Class) (outs : List Receipt) (place : ℕ) →
      place + length outs ≡ length piece.before.receipts →
      HandsOutItems home held.cpu class items outs →
      Follows o jobs held.cpu did place (outs ++ receipts) [] told

-- and where memory was wanting: those that are told are of some of the hand-outs, in their order
-- (no public clause cites it)
pub record RanSome (table : TableId) (home : ℕ) (items : List Item) (held after : HeldPass)
    (before now : List Ran) : Type 0 where
  pub receipts : List Receipt
  pub did : List Did
  pub told : List Ran
  pub piece : Piece table held after receipts did 0
  pub runs_are : now ≡ before ++ told
  pub some : (class : Class) (outs : List Receipt) → HandsOutItems home held.cpu class items outs →
      RunsOfSome (outs ++ receipts) told

-- WORK that is done: what the pass gained leaves nothing to be armed, and its runs are told (no
-- public clause cites it)
pub record Works (table : TableId) (o : World) (jobs : ℕ → JobCall → JobReply)
    (held after : HeldPass) (before now : List Ran) (walks : ℕ) (receipts : List Receipt)
    (did : List Did) : Type 0 where
  pub told : List Ran
  pub piece : Piece table held after receipts did walks
  pub runs_are : now ≡ before ++ told
  pub follows : Follows o jobs held.cpu did (length piece.before.receipts) receipts [] told

-- WORK that was broken off by want of memory: the runs that are told are of some of the hand-outs
-- (no public clause cites it)
pub record Breaks (table : TableId) (held after : HeldPass) (before now : List Ran) (walks : ℕ)
    : Type 0 where
  pub receipts : List Receipt
  pub did : List Did
  pub told : List Ran
  pub piece : Piece table held after receipts did walks
  pub runs_are : now ≡ before ++ told
  pub some : RunsOfSome receipts told

-- A DRAIN of an own base of the pass's CPU, with the jobs of what went out (no public clause cites
-- it)
pub record HasDrained (table : TableId) (o : World) (jobs : ℕ → JobCall → JobReply)
    (class : Class) (held after : HeldPass) (before now : List Ran) : Type 0 where
  pub receipts : List Receipt
  pub did : List Did
  pub works : Works table o jobs held after before now 0 receipts did
  pub ticked : HasTicked held.cpu class receipts
