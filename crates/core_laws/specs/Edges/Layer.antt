-- edges of the tree under activations and stale readings: the layer, and the law that every step
-- keeps it
use Rattle.tree_plan.specs.Shape.{Shape}
use Rattle.walk_rules.specs.Clearing.{BitsHold, MarksHold, NoneAtKnown}
use Rattle.walk_rules.specs.Edges.{EdgesHold, GroupsLawful, ReadsHold}
use Rattle.walk_rules.specs.Hierarchy.{IsHierarchy}
use Rattle.walk_rules.specs.Scene.{Scene}
use Rattle.core_world.specs.declared.step.Step.{Step}
use Rattle.core_world.specs.Enabled.{Enabled}
use Rattle.core_world.specs.Frames.{IsSized}
use Rattle.core_world.specs.Steps.{stepped}
use Rattle.core_world.specs.World.{World, scene_of}
use Rattle.core_laws.specs.Walks.Fit.{WalksFit}

-- each group is lawful; the bit of an active child is set or an activation is there to set it; a
-- fresh reading that saw a child inactive still says so
pub record EdgesFit (t : Shape) (s : Scene) : Type 0 where
  pub groups : GroupsLawful t s
  pub edges : EdgesHold t s
  pub reads : ReadsHold t s

-- THE LAW
abbrev pub EdgesStayFit : Type 0
EdgesStayFit = (w : World) (step : Step) → IsHierarchy w.tree → IsSized w →
    WalksFit w.tree (scene_of w) →
    EdgesFit w.tree (scene_of w) → Enabled w step → EdgesFit w.tree (scene_of (stepped w step))

-- an inactive child's bit is cleared by some walk, or the child gets active again; at the edge of
-- an active CPU whose bit is set no activation stands
pub record BitsFit (t : Shape) (s : Scene) : Type 0 where
  pub bits : BitsHold t s
  pub known : NoneAtKnown t s

-- THE LAW
abbrev pub BitsStayFit : Type 0
BitsStayFit = (w : World) (step : Step) → IsHierarchy w.tree → IsSized w →
    WalksFit w.tree (scene_of w) →
    EdgesFit w.tree (scene_of w) → BitsFit w.tree (scene_of w) → Enabled w step →
    BitsFit w.tree (scene_of (stepped w step))

-- what an activation marks as ignored is active, as follows from the other rules
abbrev pub MarksFollow : Type 0
MarksFollow = (t : Shape) (s : Scene) → IsHierarchy t → WalksFit t s → EdgesFit t s → MarksHold t s
