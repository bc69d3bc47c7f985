-- events on their way upwards: part 5 of the invariant, and the law that every step keeps it
use Rattle.tree_plan.specs.Shape.{Shape}
use Rattle.walk_rules.specs.Clearing.{MarksHold}
use Rattle.walk_rules.specs.Hierarchy.{IsHierarchy}
use Rattle.walk_rules.specs.Locks.{LocksHold}
use Rattle.walk_rules.specs.Queues.{BestHolds, EventsTold, SightsHold}
use Rattle.walk_rules.specs.Scene.{Scene}
use Rattle.core_world.specs.declared.step.Step.{Step}
use Rattle.core_world.specs.Enabled.{Enabled}
use Rattle.core_world.specs.Frames.{IsSized}
use Rattle.core_world.specs.Steps.{stepped}
use Rattle.core_world.specs.World.{World, scene_of}
use Rattle.core_laws.specs.Walks.Fit.{WalksFit}
use Rattle.core_laws.specs.Edges.Layer.{EdgesFit}

-- all that an inactive group knows of is told to its parent or on its way there, the first event
-- that a walk has read is the first, and what was seen under a lock is still so or seen to
pub record EventsFit (t : Shape) (s : Scene) : Type 0 where
  pub told : EventsTold t s
  pub best : BestHolds t s
  pub sights : SightsHold t s

-- THE LAW
abbrev pub EventsStayFit : Type 0
EventsStayFit = (w : World) (step : Step) → IsHierarchy w.tree → IsSized w →
    WalksFit w.tree (scene_of w) → EdgesFit w.tree (scene_of w) → MarksHold w.tree (scene_of w) →
    LocksHold w.tree (scene_of w) → EventsFit w.tree (scene_of w) → Enabled w step →
    EventsFit w.tree (scene_of (stepped w step))
