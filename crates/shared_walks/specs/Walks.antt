-- what a walk's step makes of the part of its CPU, stage by stage
use Rattle.std.specs.Prelude.{◌≡◌, ℕ, zero, suc, ◌-◌, ◌==◌, Bool, true, false, Some, MatchBool}
use Rattle.walk_rules.specs.declared.walk.Walk.{Walk}
use Rattle.walk_rules.specs.declared.walk.Stage.{Stage}
use Rattle.walk_rules.specs.declared.walk.Stage.TheVariants as stages
use Rattle.core_world.specs.World.{World}
use Rattle.shared_rule.specs.declared.parts.BoxView.{BoxView}
use Rattle.shared_rule.specs.Plays.{by_walk, child_freed_walk, child_locked_walk, child_read_walk}
use Rattle.shared_rule.specs.Plays.{child_sight, group_freed_walk, locked_walk}
use Rattle.shared_rule.specs.Plays.{marked_walk, own_marked_box, own_read_walk, read_walk, reading}
use Rattle.shared_rule.specs.Plays.{scan_sight, stored_box, swap_box}
use Rattle.shared_rule.specs.Parts.{HeldPart}
use Rattle.shared_walks.specs.Steps.{HasMissed, HasRisen, LockTried, group_seen, on_part}
use Rattle.shared_walks.specs.Steps.{top_seen}

-- the box of the part has changed so
abbrev pub Becomes : (BoxView → BoxView) → HeldPart → HeldPart → Type 0
Becomes f old new = new ≡ on_part f old

-- it has changed by what the step found
abbrev pub BecomesBy : (ℕ → BoxView → BoxView) → HeldPart → HeldPart → Type 0
BecomesBy f old new = (found : ℕ) × Becomes (f found) old new

-- CHILD: the walk has read its child's word, which at a leaf is that of its CPU
abbrev pub HasReadChild : (level : ℕ) → HeldPart → HeldPart → Type 0
HasReadChild zero old new = Becomes (by_walk own_read_walk) old new
HasReadChild (suc l) old new = BecomesBy (λ found. by_walk (child_read_walk found)) old new

-- SWAP: the exchange was made where it found the word that the walk had read; else the walk has
-- read it anew
pub record HasSwapped (swapped : Bool) (old new : HeldPart) : Type 0 where
  pub found : ℕ
  pub exactly : swapped ≡ (found == old.box.read)
  pub box : Becomes (swap_box swapped found) old new

-- A STEP of the walk at this stage has made this of the part. `made` is false where its exchange
-- found another word than the one that was wanted, and else nowhere: at a lock a word that isn't 0,
-- and at Up another word of the group than the one that this step had loaded
abbrev pub StepOf : World → Walk → Stage → (made : Bool) → (old new : HeldPart) → Type 0
StepOf o k stages.Own made old new = (made ≡ true) × Becomes own_marked_box old new
StepOf o k stages.Up made old new =
    MatchBool made (HasRisen old new) (HasMissed o k.level old new)
StepOf o k (stages.Mark more) made old new = (made ≡ true) × Becomes (by_walk marked_walk) old new
StepOf o k stages.Read made old new =
    (made ≡ true) × BecomesBy (λ found b. reading found (by_walk read_walk b)) old new
StepOf o k stages.Child made old new = (made ≡ true) × HasReadChild k.level old new
StepOf o k stages.Swap made old new = (made ≡ true) × (swapped : Bool) × HasSwapped swapped old new
StepOf o k stages.LockChild made old new =
    LockTried o child_locked_walk (k.level - 1) made old new
StepOf o k stages.LockGroup made old new = LockTried o locked_walk k.level made old new
StepOf o k stages.SeeChild made old new =
    (made ≡ true) × BecomesBy (λ found. by_walk (child_sight found)) old new
StepOf o k stages.SeeGroup made old new = (made ≡ true) × BecomesBy (group_seen o k) old new
StepOf o k (stages.Scan j) made old new =
    (made ≡ true) × BecomesBy (λ found. by_walk (scan_sight found)) old new
StepOf o k stages.Store made old new = (made ≡ true) × Becomes stored_box old new
StepOf o k (stages.First j) made old new = (made ≡ true) × BecomesBy (top_seen o k j) old new
StepOf o k stages.FreeGroup made old new =
    (made ≡ true) × Becomes (by_walk group_freed_walk) old new
StepOf o k stages.FreeChild made old new =
    (made ≡ true) × Becomes (by_walk child_freed_walk) old new
StepOf o k stages.Finish made old new = ⊥
StepOf o k stages.Handing made old new = ⊥

-- whether the step at a stage is one of those on the groups: neither the end of a walk nor what
-- comes after it
abbrev pub is_under_way : Stage → Bool
is_under_way stages.Finish = false
is_under_way stages.Handing = false
is_under_way other = true

-- the part has a walk that goes on
pub record GoesOn (part : HeldPart) : Type 0 where
  pub walk : Walk
  pub has : part.box.own.walk ≡ Some walk
  pub stage : is_under_way walk.stage ≡ true

-- the step of the part's walk, at the stage where it stood
abbrev pub HasStepped : World → (made : Bool) → (old new : HeldPart) → Type 0
HasStepped o made old new =
    (k : Walk) → old.box.own.walk ≡ Some k → StepOf o k k.stage made old new
