-- locks, and the law that every step keeps them with the walks that hold them
use Rattle.walk_rules.specs.Hierarchy.{IsHierarchy}
use Rattle.walk_rules.specs.Locks.{LocksHold}
use Rattle.core_world.specs.declared.step.Step.{Step}
use Rattle.core_world.specs.Enabled.{Enabled}
use Rattle.core_world.specs.Frames.{IsSized}
use Rattle.core_world.specs.Steps.{stepped}
use Rattle.core_world.specs.World.{World, scene_of}
use Rattle.core_laws.specs.Walks.Fit.{WalksFit}

-- THE LAW
abbrev pub LocksStay : Type 0
LocksStay = (w : World) (step : Step) → IsHierarchy w.tree → IsSized w →
    WalksFit w.tree (scene_of w) →
    LocksHold w.tree (scene_of w) → Enabled w step → LocksHold w.tree (scene_of (stepped w step))
