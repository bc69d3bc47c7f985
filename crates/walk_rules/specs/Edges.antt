-- edges of the tree under activations: part 1, 2 and 4 of the invariant
use Rattle.std.specs.Prelude.{◌≡◌, ◌⊎◌, ℕ, suc, ◌^◌, ◌<◌, true, false, Option, Some, None}
use Rattle.std.specs.Prelude.{option_and_then}
use Rattle.group_word.specs.Group.{GroupLaw, IsActive}
use Rattle.tm_base.specs.declared.names.Child.{Child}
use Rattle.tree_plan.specs.Shape.{Shape}
use Rattle.tm_base.specs.Children.{of_cpu}
use Rattle.tree_plan.specs.Paths.{parent_of, bit_of, group_at_of, child_towards}
use Rattle.walk_rules.specs.declared.walk.Walk.{Walk}
use Rattle.walk_rules.specs.declared.walk.WalkKind.TheVariants as kinds
use Rattle.walk_rules.specs.declared.walk.Stage.{Stage}
use Rattle.walk_rules.specs.declared.walk.Stage.TheVariants as stages
use Rattle.walk_rules.specs.Scene.{Scene, is_on, HasBit}

-- An edge of a path leads from a child to its group. The level of the edge at which an activation
-- stands, that of the group which it has to make know of the child
abbrev pub edge_level : (level : ℕ) → Stage → Option ℕ
edge_level level stages.Own = Some 0
edge_level level stages.Up = Some level
edge_level level (stages.Mark true) = Some (suc level)
edge_level level other = None

-- the level of the edge at which an activation stands, if it is one
abbrev pub edge_of : Option Walk → Option ℕ
edge_of None = None
edge_of (Some k) = edge_level k.level k.stage

-- the child at whose edge CPU c stands by its walk, and the group of that edge
abbrev pub stand : Shape → Scene → ℕ → Option Child
stand t s c = option_and_then (child_towards t c) (edge_of (s.walk c))

-- the group to which the edge leads at which CPU c's activation stands
abbrev pub heading : Shape → Scene → ℕ → Option ℕ
heading t s c = option_and_then (group_at_of t c) (edge_of (s.walk c))

-- some activation stands at the edge of this child
abbrev pub StandsAt : Shape → Scene → Child → Type 0
StandsAt t s m = (d : ℕ) × (stand t s d ≡ Some m)

-- an activation stands below group x
abbrev pub StandsBelow : Shape → Scene → ℕ → Type 0
StandsBelow t s x = (d : ℕ) × (heading t s d ≡ Some x)

-- the activation has passed the edges below this level
abbrev pub passed_levels : (level : ℕ) → Stage → ℕ
passed_levels level stages.Up = level
passed_levels level (stages.Mark more) = suc level
passed_levels level other = 0

-- how many edges of its path an activation has passed
abbrev pub passed_of : Option Walk → ℕ
passed_of None = 0
passed_of (Some k) = passed_levels k.level k.stage

-- the edge of child m to group g is one that CPU c's activation has passed
pub record HasPassed (t : Shape) (s : Scene) (c : ℕ) (m : Child) (g : ℕ) : Type 0 where
  pub at : ℕ
  pub below : at < passed_of (s.walk c)
  pub child : child_towards t c at ≡ Some m
  pub parent : group_at_of t c at ≡ Some g

-- PART 1: the migrator is an active child, and there is none exactly where no child is active; a
-- set has at most eight children, those that the group has
pub record GroupsLawful (t : Shape) (s : Scene) : Type 0 where
  pub law : (g : ℕ) → GroupLaw (s.group g).active (s.group g).migrator
  pub eight : (g : ℕ) → (s.group g).active < 2 ^ 8
  pub children : (g k : ℕ) → IsActive (s.group g).active k →
      (m : Child) × (parent_of t m ≡ Some g) × (bit_of t m ≡ k)

-- PART 2
pub record EdgesHold (t : Shape) (s : Scene) : Type 0 where
  -- 2a: at the edge of an inactive child no activation stands
  pub quiet : (m : Child) (c : ℕ) → is_on s m ≡ false → stand t s c ≡ Some m → ⊥
  -- 2b: at an edge at most one stands, and one where the bit of an active child isn't set
  pub once : (m : Child) (c d : ℕ) → stand t s c ≡ Some m → stand t s d ≡ Some m → c ≡ d
  pub needs : (m : Child) (g : ℕ) → parent_of t m ≡ Some g → is_on s m ≡ true → (HasBit t s m g →
      ⊥) →
      StandsAt t s m
  -- 2d: an activation's CPU is active
  pub active : (c : ℕ) (k : Walk) → s.walk c ≡ Some k → k.kind ≡ kinds.Activate →
      is_on s (of_cpu c) ≡ true
  -- 2e: at each edge that an activation has passed the bit is set and none stands
  pub passed : (c : ℕ) (m : Child) (g : ℕ) → HasPassed t s c m g → HasBit t s m g
  pub behind : (c d : ℕ) (m : Child) (g : ℕ) → HasPassed t s c m g → stand t s d ≡ Some m → ⊥

-- CPU c's walk is about to take this child out, and the group's word is as it read it
pub record IsSure (t : Shape) (s : Scene) (c : ℕ) (k : Walk) (m : Child) : Type 0 where
  pub walk : s.walk c ≡ Some k
  pub swapping : k.stage ≡ stages.Swap
  pub fresh : s.fresh c ≡ true
  pub saw_off : k.child_on ≡ false
  pub child : child_towards t c k.level ≡ Some m

-- PART 4: where a walk is at Swap, fresh, and saw its child inactive, the child is inactive or an
-- activation stands between child and group
abbrev pub ReadsHold : Shape → Scene → Type 0
ReadsHold t s = (c : ℕ) (k : Walk) (m : Child) → IsSure t s c k m →
    (is_on s m ≡ false) ⊎ StandsAt t s m
