-- who holds a group's lock
use Rattle.std.specs.Prelude.{◌≡◌, ◌↔◌, ℕ, Some}
use Rattle.tree_plan.specs.Paths.{group_at_of}
use Rattle.walk_rules.specs.declared.walk.Walk.{Walk}
use Rattle.walk_rules.specs.declared.walk.Stage.TheVariants as stages
use Rattle.walk_rules.specs.Locks.{HoldsBy}
use Rattle.walk_rules.specs.Queues.{group_under}
use Rattle.walk_rules.specs.Standing.{Tells}
use Rattle.core_world.specs.Lawful.{IsLawful}
use Rattle.core_world.specs.World.{World, cpu_of, group_of}

-- CPU c makes a walk, which isn't an activation
pub record MakesTelling (w : World) (c : ℕ) : Type 0 where
  pub made : Walk
  pub walk : (cpu_of w c).walk ≡ Some made
  pub tells : Tells made.kind

-- locks and the walks that hold them fit
pub record LocksAreHeld (w : World) : Type 0 where
  -- a lock names a CPU exactly where that CPU's walk is between taking it and giving it back
  pub held : (g c : ℕ) →
      ((group_of w g).lock ≡ Some c) ↔ HoldsBy w.tree c (cpu_of w c).walk g
  -- so it names no CPU without a walk, and none that makes an activation
  pub walking : (g c : ℕ) → (group_of w g).lock ≡ Some c → MakesTelling w c
  -- what a walk gives back it holds
  pub frees_group : (c g : ℕ) (k : Walk) → (cpu_of w c).walk ≡ Some k →
      k.stage ≡ stages.FreeGroup → group_at_of w.tree c k.level ≡ Some g →
      (group_of w g).lock ≡ Some c
  pub frees_child : (c g : ℕ) (k : Walk) → (cpu_of w c).walk ≡ Some k →
      k.stage ≡ stages.FreeChild → group_under w.tree c k.level ≡ Some g →
      (group_of w g).lock ≡ Some c

-- in every lawful world locks and the walks that hold them fit
abbrev pub EachLockIsHeld : Type 0
EachLockIsHeld = (w : World) → IsLawful w → LocksAreHeld w
