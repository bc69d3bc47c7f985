-- an idle top is answered: part 7 of the invariant and NoNever, and the law that every step keeps
-- them
use Rattle.walk_rules.specs.Clearing.{MarksHold}
use Rattle.walk_rules.specs.Hierarchy.{IsHierarchy}
use Rattle.walk_rules.specs.Locks.{LocksHold}
use Rattle.walk_rules.specs.Queues.{SightsHold}
use Rattle.core_world.specs.declared.step.Step.{Step}
use Rattle.core_world.specs.Enabled.{Enabled}
use Rattle.core_world.specs.Frames.{IsSized}
use Rattle.core_world.specs.IdleTop.{FirstHolds, TopAnswered}
use Rattle.core_world.specs.Marks.{MarkersFit}
use Rattle.core_world.specs.Origins.{EventsHaveOrigins}
use Rattle.core_world.specs.Steps.{stepped}
use Rattle.core_world.specs.Timers.{NoNever, TimersHold}
use Rattle.core_world.specs.World.{World, scene_of}
use Rattle.core_laws.specs.Walks.Fit.{WalksFit}
use Rattle.core_laws.specs.Edges.Layer.{EdgesFit}
use Rattle.core_laws.specs.Cpus.Layer.{CpusFit}

-- 7 and NONEVER of the invariant: an idle top is answered
pub record TopsFit (w : World) : Type 0 where
  pub no_never : NoNever w
  pub answered : TopAnswered w
  pub first : FirstHolds w

-- THE LAW. By parts 10 and 11b no event's expiry is past NEVER, so that an Offline walk which found
-- nothing before NEVER leaves none that comes
abbrev pub TopsStayFit : Type 0
TopsStayFit = (w : World) (step : Step) → IsHierarchy w.tree → IsSized w → TimersHold w →
    EventsHaveOrigins w → WalksFit w.tree (scene_of w) → EdgesFit w.tree (scene_of w) →
    MarksHold w.tree (scene_of w) → SightsHold w.tree (scene_of w) →
    LocksHold w.tree (scene_of w) → CpusFit w → MarkersFit w → TopsFit w → Enabled w step →
    TopsFit (stepped w step)
