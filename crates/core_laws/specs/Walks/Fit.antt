-- the bookkeeping of one walk, and of all
use Rattle.std.specs.Prelude.{ℕ, Bool}
use Rattle.tree_plan.specs.Shape.{Shape}
use Rattle.walk_rules.specs.declared.walk.Walk.{Walk}
use Rattle.walk_rules.specs.Hierarchy.{HasGroup, IsHierarchy, at_top}
use Rattle.walk_rules.specs.Scene.{Scene}
use Rattle.walk_rules.specs.Standing.{FlagsAt, FlagsHold, IsPlaced, IsWalker, StandsAlone}
use Rattle.walk_rules.specs.Standing.{StandsInTree, WalkersFit}
use Rattle.core_world.specs.declared.step.Step.{Step}
use Rattle.core_world.specs.Enabled.{Enabled}
use Rattle.core_world.specs.Steps.{stepped}
use Rattle.core_world.specs.World.{World, scene_of}

-- every walk's kind fits its stage and level, its flags fit its stage, and its CPU fits its kind
pub record WalksFit (t : Shape) (s : Scene) : Type 0 where
  pub placed : IsPlaced t s
  pub flags : FlagsHold t s
  pub walkers : WalkersFit s

-- the kind of one walk of CPU c fits its stage and level, its flags fit its stage, and its CPU fits
-- its kind (no public clause cites it)
pub record IsFit (t : Shape) (c : ℕ) (online idle : Bool) (k : Walk) : Type 0 where
  pub in_tree : HasGroup t c → StandsInTree t c k
  pub alone : (HasGroup t c → ⊥) → StandsAlone k
  pub flags : HasGroup t c → FlagsAt (at_top t c k.level) k.on k.over k.stage
  pub walker : IsWalker k.kind online idle

-- THE LAW: every step keeps it
abbrev pub WalksStayFit : Type 0
WalksStayFit = (w : World) (step : Step) → IsHierarchy w.tree → WalksFit w.tree (scene_of w) →
    Enabled w step →
    WalksFit w.tree (scene_of (stepped w step))
