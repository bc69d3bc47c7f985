-- a walk that hands on, and that some placed CPU is online
use Rattle.std.specs.Prelude.{◌≡◌, ◌≢◌, ℕ, ◌<◌, true, false, Some, length}
use Rattle.tm_base.specs.declared.names.TheConstants.{NEVER}
use Rattle.tree_plan.specs.Paths.{is_placed_in}
use Rattle.walk_rules.specs.declared.walk.Walk.{Walk}
use Rattle.walk_rules.specs.declared.walk.WalkKind.TheVariants as kinds
use Rattle.walk_rules.specs.declared.walk.Stage.TheVariants as stages
use Rattle.walk_rules.specs.Hierarchy.{HasGroup}
use Rattle.core_world.specs.Lawful.{IsLawful}
use Rattle.core_world.specs.World.{World, cpu_of, group_of}

-- a placed CPU that is online
pub record IsPlacedOnline (w : World) (d : ℕ) : Type 0 where
  pub in_range : d < length w.cpus
  pub placed : is_placed_in w.tree d ≡ true
  pub online : (cpu_of w d).online ≡ true

-- some placed CPU is online
abbrev pub SomePlacedOnline : World → Type 0
SomePlacedOnline w = (d : ℕ) × IsPlacedOnline w d

-- CPU c, whose walk k stands at Handing, went offline; it hands on an event that comes, holds no
-- lock, and another placed CPU is online
pub record HandsOn (w : World) (c : ℕ) (k : Walk) : Type 0 where
  pub kind : k.kind ≡ kinds.Offline
  pub offline : (cpu_of w c).online ≡ false
  pub has_group : HasGroup w.tree c
  pub first : k.first < NEVER
  pub holds_none : (g : ℕ) → (group_of w g).lock ≢ Some c
  pub another : (d : ℕ) × (d ≢ c) × IsPlacedOnline w d

-- in every lawful world a walk that hands on is as `HandsOn` says
abbrev pub EachHandsOn : Type 0
EachHandsOn = (w : World) → IsLawful w → (c : ℕ) (k : Walk) → (cpu_of w c).walk ≡ Some k →
    k.stage ≡ stages.Handing → HandsOn w c k

-- in every lawful world some placed CPU is online
abbrev pub EachHasPlaced : Type 0
EachHasPlaced = (w : World) → IsLawful w → SomePlacedOnline w
