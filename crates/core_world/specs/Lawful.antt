-- what every world of the core keeps: the parts of the invariant, and the bookkeeping that makes
-- them inductive
use Rattle.walk_rules.specs.Clearing.{BitsHold, MarksHold, NoneAtKnown}
use Rattle.walk_rules.specs.Edges.{EdgesHold, GroupsLawful, ReadsHold}
use Rattle.walk_rules.specs.Hierarchy.{IsHierarchy}
use Rattle.walk_rules.specs.Locks.{LocksHold}
use Rattle.walk_rules.specs.Queues.{BestHolds, EventsTold, SightsHold}
use Rattle.walk_rules.specs.Standing.{FlagsHold, IsPlaced, WalkersFit}
use Rattle.core_world.specs.Frames.{IsSized}
use Rattle.core_world.specs.IdleTop.{FirstHolds, TopAnswered}
use Rattle.core_world.specs.Marks.{HandingFound, MarkedHasGroup, MarkersFit, RemoteFits, SomePlaced}
use Rattle.core_world.specs.Origins.{BestsHaveOrigins, EventsHaveOrigins, TimesHaveOrigins}
use Rattle.core_world.specs.Timers.{NoNever, TimersHold, TimesHold}
use Rattle.core_world.specs.Wakeups.{NoWakeupAwake, OffAtRest, OwnEvent, WakeupsHold, WalkTimesHold}
use Rattle.core_world.specs.World.{World, scene_of}

-- THE WHOLE INVARIANT: its parts, by name
pub record IsLawful (w : World) : Type 0 where
  -- the tree, and how much there is
  pub hierarchy : IsHierarchy w.tree
  pub sized : IsSized w
  -- bookkeeping
  pub placed : IsPlaced w.tree (scene_of w)
  pub flags : FlagsHold w.tree (scene_of w)
  pub walkers : WalkersFit (scene_of w)
  pub some_placed : SomePlaced w
  pub marked : MarkedHasGroup w
  pub found : HandingFound w
  pub own_event : OwnEvent w
  pub off_at_rest : OffAtRest w
  pub no_never : NoNever w
  pub times : TimesHold w
  -- 1, 2, 4: groups, edges under activations, fresh readings
  pub groups : GroupsLawful w.tree (scene_of w)
  pub edges : EdgesHold w.tree (scene_of w)
  pub reads : ReadsHold w.tree (scene_of w)
  -- 3, 2c, 6: bits of inactive children, active CPUs whose bit is set, what is marked as ignored
  pub bits : BitsHold w.tree (scene_of w)
  pub known : NoneAtKnown w.tree (scene_of w)
  pub ignored : MarksHold w.tree (scene_of w)
  -- 5: events on their way upwards
  pub told : EventsTold w.tree (scene_of w)
  pub best : BestHolds w.tree (scene_of w)
  pub sights : SightsHold w.tree (scene_of w)
  -- 7: an idle top is answered
  pub answered : TopAnswered w
  pub first : FirstHolds w
  -- 8: wakeups and leaf events
  pub wakeups : WakeupsHold w
  pub walk_times : WalkTimesHold w
  pub no_wakeup : NoWakeupAwake w
  -- 9: locks and marks
  pub locks : LocksHold w.tree (scene_of w)
  pub markers : MarkersFit w
  pub remote : RemoteFits w
  -- 10, 11: timers, journals and where times come from
  pub timers : TimersHold w
  pub time_origins : TimesHaveOrigins w
  pub event_origins : EventsHaveOrigins w
  pub best_origins : BestsHaveOrigins w
