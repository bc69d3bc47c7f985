-- what a step of a walk makes of the part of its CPU
use Rattle.std.specs.Prelude.{◌≡◌, ◌≢◌, ℕ, Bool, MatchBool, Option, Some}
use Rattle.walk_rules.specs.declared.walk.Walk.{Walk}
use Rattle.walk_rules.specs.declared.walk.Stage.{Stage}
use Rattle.walk_rules.specs.Hierarchy.{group_on}
use Rattle.core_world.specs.World.{World}
use Rattle.shared_words.specs.Layout.{index_of}
use Rattle.shared_rule.specs.declared.parts.BoxView.{BoxView}
use Rattle.shared_rule.specs.Whole.{layout_of, lock_at, slot_at, state_at}
use Rattle.shared_rule.specs.Plays.{by_walk, group_sight, looking, risen_box, taken_lock}
use Rattle.shared_rule.specs.Plays.{top_sight, trying}
use Rattle.shared_rule.specs.Parts.{HeldPart}

-- a part after a change of its box
abbrev pub on_part : (BoxView → BoxView) → HeldPart → HeldPart
on_part f part = record part { box = f part.box }

-- the walk of a part stands at a stage
pub record WalkStands (part : HeldPart) (k : Walk) (at : Stage) : Type 0 where
  pub walk : part.box.own.walk ≡ Some k
  pub stage : k.stage ≡ at

-- where the word of the group of a CPU's path at a level stands
abbrev pub state_place : World → (cpu level : ℕ) → ℕ
state_place o cpu level = index_of (layout_of o) (state_at (group_on o.tree cpu level))

-- UP: the walk has gone on from a word of its group
abbrev pub HasRisen : HeldPart → HeldPart → Type 0
HasRisen old new = (word : ℕ) × (new ≡ on_part (risen_box word) old)

-- or this step has loaded a word of its group, and its exchange found another one
pub record HasMissed (o : World) (level : ℕ) (old new : HeldPart) : Type 0 where
  pub loaded : ℕ
  pub found : ℕ
  pub other : found ≢ loaded
  pub box : new
      ≡ on_part
      (λ b. trying (state_place o b.cpu level) found
      (trying (state_place o b.cpu level) loaded b)) old

-- where the word of the lock of the group of a CPU's path at a level stands
abbrev pub lock_place : World → (cpu level : ℕ) → ℕ
lock_place o cpu level = index_of (layout_of o) (lock_at (group_on o.tree cpu level))

-- LOCK: the exchange for the lock of the group at this level found a word that isn't 0
pub record IsRefused (o : World) (level : ℕ) (old new : HeldPart) : Type 0 where
  pub found : ℕ
  pub taken : found ≢ 0
  pub box : new ≡ on_part (λ b. trying (lock_place o b.cpu level) found b) old

-- the lock of the group at this level was taken, and the walk goes on, or it is another walk's
abbrev pub LockTried : World → (BoxView → Walk → Option Walk) → (level : ℕ) → (made : Bool)
    → HeldPart → HeldPart → Type 0
LockTried o next level made old new =
    MatchBool made (new ≡ on_part (taken_lock next) old) (IsRefused o level old new)

-- where a slot of the group of a CPU's path at a level stands
abbrev pub slot_place : World → (cpu level number : ℕ) → ℕ
slot_place o cpu level number =
    index_of (layout_of o) (slot_at (group_on o.tree cpu level) number)

-- LOOKS: the walk has found its group active, or not, and the box remembers the load
abbrev pub group_seen : World → Walk → (found : ℕ) → BoxView → BoxView
group_seen o k found b =
    looking (state_place o b.cpu k.level) found (by_walk (group_sight found) b)

-- the walk has read a slot of the top, and the box remembers the load
abbrev pub top_seen : World → Walk → (number found : ℕ) → BoxView → BoxView
top_seen o k number found b =
    looking (slot_place o b.cpu k.level number) found (by_walk (top_sight found) b)
