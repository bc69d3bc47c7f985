-- what a play keeps; no public clause speaks of this
use Rattle.std.specs.Prelude.{◌≡◌, ℕ, ◌+◌, ◌*◌, ◌<◌, ◌≤◌, List, [], ◌∷◌, length}
use Rattle.work_script.specs.declared.syntax.WorkMoment.{WorkMoment}
use Rattle.work_script.specs.declared.syntax.WorkOp.{WorkOp}
use Rattle.work_script.specs.declared.syntax.WorkOp.TheVariants.{Queue, Cancel}
use Rattle.tm_base.specs.declared.limits.TheConstants.{WORK_LIMIT_V1}
use Rattle.delayed_work.specs.declared.faults.WorksFault.{WorksFault}
use Rattle.delayed_work.specs.declared.faults.WorksFault.TheVariants.{BadJob, WorkSpent, NoMemory}
use Rattle.delayed_work.specs.Calls.{WorkReplies}
use Rattle.delayed_work.specs.Play.{Outcome, Playing, Spent, Stand, played_from}

-- an operation names a work that there is
abbrev pub NamesWork : (count : ℕ) → WorkOp → Type 0
NamesWork count (Queue line work delay job arg) = work < count
NamesWork count (Cancel line work) = work < count

-- and so does each of a list
abbrev pub AreInRange : (count : ℕ) → List WorkOp → Type 0
AreInRange count [] = Unit {0}
AreInRange count (o ∷ os) = NamesWork count o × AreInRange count os

-- .. of each moment
abbrev pub AreAllInRange : (count : ℕ) → List WorkMoment → Type 0
AreAllInRange count [] = Unit {0}
AreAllInRange count (m ∷ ms) = AreInRange count m.ops × AreAllInRange count ms

-- no time is past now, and there are as many works
pub record StaysPlayable (now : ℕ) (old new : Playing) : Type 0 where
  pub time : new.works.time ≤ now
  pub len : length new.works.ledger.standings ≡ length old.works.ledger.standings

-- a play that goes on from here comes out so
pub record GoesOnPlaying (replies : WorkReplies) (end : ℕ) (s : Stand) (outcome : Outcome)
    : Type 0 where
  pub moments : ℕ
  pub enough : WORK_LIMIT_V1 ≤ moments + s.count
  pub same : played_from replies moments end s ≡ outcome

-- what stands to be played: it comes out so, and the work so far is that of so many moments
pub record StandsToPlay (replies : WorkReplies) (end count : ℕ) (s : Stand) (outcome : Outcome)
    : Type 0 where
  pub going : s.count < WORK_LIMIT_V1 → GoesOnPlaying replies end s outcome
  pub spent : WORK_LIMIT_V1 ≤ s.count → outcome ≡ Spent s.count
  pub work : s.count ≤ s.now * (1 + count)
  pub in_time : s.now ≤ end
  pub time : s.playing.works.time ≤ s.now
  pub len : length s.playing.works.ledger.standings ≡ count
  pub ranges : AreAllInRange count s.moments

-- a play is broken off: its work is spent, or memory is wanting
abbrev pub BreaksOffPlay : (end count : ℕ) → Outcome → WorksFault → Type 0
BreaksOffPlay end count outcome (BadJob line job) = ⊥
BreaksOffPlay end count outcome (WorkSpent work) =
    (outcome ≡ Spent work) × (WORK_LIMIT_V1 ≤ end * (1 + count))
BreaksOffPlay end count outcome NoMemory = Unit {0}
