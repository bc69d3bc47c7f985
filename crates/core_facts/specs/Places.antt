-- where a walk stands: the group, the child, the slot and the next level that its step names are
-- there
use Rattle.std.specs.Prelude.{◌≡◌, ◌≢◌, ◌⊎◌, ℕ, ◌<◌, Bool, false, Some, length}
use Rattle.tree_plan.specs.Paths.{group_at_of}
use Rattle.walk_rules.specs.declared.walk.Walk.{Walk}
use Rattle.walk_rules.specs.declared.walk.Stage.TheVariants as stages
use Rattle.walk_rules.specs.Hierarchy.{HasGroup, at_top, side}
use Rattle.walk_rules.specs.Queues.{group_under}
use Rattle.walk_rules.specs.Standing.{FitsStage, FlagsAt, GoesOn, StandsAlone}
use Rattle.core_world.specs.Lawful.{IsLawful}
use Rattle.core_world.specs.World.{World, cpu_of, group_of}

-- group g is the one that the path of c has at a level, and has a slot for the child through which
-- the path goes
pub record IsGroupAt (w : World) (c level g : ℕ) : Type 0 where
  pub path : group_at_of w.tree c level ≡ Some g
  pub in_range : g < length w.groups
  pub slot : side w.tree c level < length (group_of w g).events

-- c's walk k stands at a group of c's path
pub record StandsAtGroup (w : World) (c : ℕ) (k : Walk) : Type 0 where
  pub group : (g : ℕ) × IsGroupAt w c k.level g
  -- so does the path one level below, where there is one
  pub child : 0 < k.level →
      (h : ℕ) × (group_under w.tree c k.level ≡ Some h) × (h < length w.groups)
  pub fits : FitsStage w.tree c k.kind k.level k.stage
  pub flags : FlagsAt (at_top w.tree c k.level) k.on k.over k.stage
  -- where it marks, or gives back its locks to go on, there is a next level
  pub marks : (more : Bool) → k.stage ≡ stages.Mark more → GoesOn w.tree c k.level
  pub goes_on : (k.stage ≡ stages.FreeGroup) ⊎ (k.stage ≡ stages.FreeChild) → k.over ≡ false →
      GoesOn w.tree c k.level

-- what a walk's step names is there: its group, child, slot and next level
pub record PlacesFit (w : World) : Type 0 where
  pub in_tree : (c : ℕ) (k : Walk) → (cpu_of w c).walk ≡ Some k → HasGroup w.tree c →
      StandsAtGroup w c k
  -- the walk of a CPU that has no group has only its CPU's wakeup to set
  pub alone : (c : ℕ) (k : Walk) → (cpu_of w c).walk ≡ Some k → (HasGroup w.tree c → ⊥) →
      StandsAlone k
  -- and so only at Finish may a walk's CPU have none
  pub stages_of : (c : ℕ) (k : Walk) → (cpu_of w c).walk ≡ Some k → k.stage ≢ stages.Finish →
      HasGroup w.tree c

-- in every lawful world what a walk's step names is there
abbrev pub EachPlaceFits : Type 0
EachPlaceFits = (w : World) → IsLawful w → PlacesFit w
