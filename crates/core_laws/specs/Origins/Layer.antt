-- where times and events come from: part 11 of the invariant, and the law that every step keeps it
use Rattle.walk_rules.specs.Hierarchy.{IsHierarchy}
use Rattle.core_world.specs.declared.step.Step.{Step}
use Rattle.core_world.specs.Enabled.{Enabled}
use Rattle.core_world.specs.Frames.{IsSized}
use Rattle.core_world.specs.Origins.{BestsHaveOrigins, EventsHaveOrigins, TimesHaveOrigins}
use Rattle.core_world.specs.Steps.{stepped}
use Rattle.core_world.specs.World.{World, scene_of}
use Rattle.core_laws.specs.Walks.Fit.{WalksFit}
use Rattle.core_laws.specs.Timers.Layer.{TimersFit}

-- 11 of the invariant: times come from armings, events from CPUs below
pub record OriginsFit (w : World) : Type 0 where
  pub times : TimesHaveOrigins w
  pub events : EventsHaveOrigins w
  pub bests : BestsHaveOrigins w

-- THE LAW
abbrev pub OriginsStayFit : Type 0
OriginsStayFit = (w : World) (step : Step) → IsHierarchy w.tree → IsSized w →
    WalksFit w.tree (scene_of w) → TimersFit w → OriginsFit w → Enabled w step →
    OriginsFit (stepped w step)
