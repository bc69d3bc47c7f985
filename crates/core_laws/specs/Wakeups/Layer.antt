-- kept wakeups and leaf events: part 8a of the invariant and OwnEvent, and the law that every step
-- keeps them
use Rattle.walk_rules.specs.Hierarchy.{IsHierarchy}
use Rattle.core_world.specs.declared.step.Step.{Step}
use Rattle.core_world.specs.Enabled.{Enabled}
use Rattle.core_world.specs.Frames.{IsSized}
use Rattle.core_world.specs.Steps.{stepped}
use Rattle.core_world.specs.Timers.{TimersHold}
use Rattle.core_world.specs.Wakeups.{OwnEvent, WakeupsHold}
use Rattle.core_world.specs.World.{World, scene_of}
use Rattle.core_laws.specs.Walks.Fit.{WalksFit}
use Rattle.core_laws.specs.Edges.Layer.{EdgesFit}
use Rattle.core_laws.specs.Cpus.Layer.{CpusFit}

-- 8a and OWNEVENT of the invariant: kept wakeups and leaf events are in time
pub record WakeupsFit (w : World) : Type 0 where
  pub wakeups : WakeupsHold w
  pub own_event : OwnEvent w

-- THE LAW. By part 10 no queued expiry is past NEVER, so that no event gets sooner as a timer goes
-- out
abbrev pub WakeupsStayFit : Type 0
WakeupsStayFit = (w : World) (step : Step) → IsHierarchy w.tree → IsSized w → TimersHold w →
    WalksFit w.tree (scene_of w) → EdgesFit w.tree (scene_of w) → CpusFit w → WakeupsFit w →
    Enabled w step →
    WakeupsFit (stepped w step)
