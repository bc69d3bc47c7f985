-- the layers of the invariant, taken out of it and put together again
use Rattle.std.proofs.Common.{[], ◌∷◌, sym, ap, subst, ◌∙◌, arith}
use Rattle.tree_plan.specs.Shape.{Shape}
use Rattle.tree_plan.specs.Paths.{cpu_count_of, group_count_of}
use Rattle.walk_rules.specs.Hierarchy.{IsHierarchy}
use Rattle.walk_rules.specs.Locks.{LocksHold}
use Rattle.core_world.specs.Frames.{IsSized, SameSize, SizesStay}
use Rattle.core_world.specs.Lawful.{IsLawful}
use Rattle.core_world.specs.Steps.{stepped}
use Rattle.core_world.specs.World.{World, scene_of}
use Rattle.core_laws.specs.Walks.Fit.{WalksFit, WalksStayFit}
use Rattle.core_laws.specs.Edges.Layer.{BitsFit, BitsStayFit, EdgesFit, EdgesStayFit, MarksFollow}
use Rattle.core_laws.specs.Locks.Layer.{LocksStay}
use Rattle.core_laws.specs.Events.Layer.{EventsFit, EventsStayFit}
use Rattle.core_laws.specs.Cpus.Layer.{CpusFit, CpusStayFit}
use Rattle.core_laws.specs.Marks.Layer.{MarkersStayFit, PlacedAndMarked}
use Rattle.core_laws.specs.Timers.Layer.{TimersFit, TimersStayFit}
use Rattle.core_laws.specs.Wakeups.Layer.{WakeupsFit, WakeupsStayFit}
use Rattle.core_laws.specs.Tops.Layer.{TopsFit, TopsStayFit}
use Rattle.core_laws.specs.Origins.Layer.{OriginsFit, OriginsStayFit}
use Rattle.core_laws.specs.Laws.{ListsStayLawful, StepsStayLawful}

module _ (w : World) (l : IsLawful w) where
  walks_fit : WalksFit w.tree (scene_of w)
  walks_fit = record { placed = l.placed; flags = l.flags; walkers = l.walkers }

  edges_fit : EdgesFit w.tree (scene_of w)
  edges_fit = record { groups = l.groups; edges = l.edges; reads = l.reads }

  bits_fit : BitsFit w.tree (scene_of w)
  bits_fit = record { bits = l.bits; known = l.known }

  events_fit : EventsFit w.tree (scene_of w)
  events_fit = record { told = l.told; best = l.best; sights = l.sights }

  cpus_fit : CpusFit w
  cpus_fit = record {
    marked = l.marked;
    found = l.found;
    at_rest = l.off_at_rest;
    times = l.walk_times;
    no_wakeup = l.no_wakeup;
    remote = l.remote;
  }

  marks_fit : PlacedAndMarked w
  marks_fit = record { some_placed = l.some_placed; markers = l.markers }

  timers_fit : TimersFit w
  timers_fit = record { timers = l.timers; times = l.times }

  wakeups_fit : WakeupsFit w
  wakeups_fit = record { wakeups = l.wakeups; own_event = l.own_event }

  tops_fit : TopsFit w
  tops_fit = record { no_never = l.no_never; answered = l.answered; first = l.first }

  origins_fit : OriginsFit w
  origins_fit = record { times = l.time_origins; events = l.event_origins; bests = l.best_origins }

sized_after : (old new : World) → SameSize old new → IsSized old → IsSized new
sized_after old new same sized = record {
  groups = same.groups ∙ sized.groups ∙ ap group_count_of (sym same.tree);
  cpus = same.cpus ∙ sized.cpus ∙ ap cpu_count_of (sym same.tree);
  slots = λ g low. same.slots g ∙ sized.slots g (omega (arith, low, same.groups));
}

-- what is said of the tree of the world before is said of the tree after
over : (old new : World) → SameSize old new → (P : Shape → Type 0) → P old.tree → P new.tree
over old new same P p = subst P (sym same.tree) p

pub step_lawful : SizesStay → WalksStayFit → EdgesStayFit → BitsStayFit → MarksFollow → LocksStay → EventsStayFit → CpusStayFit
    → MarkersStayFit → TimersStayFit → WakeupsStayFit → TopsStayFit → OriginsStayFit → StepsStayLawful
step_lawful sizes walks edges bits marks locks events cpus markers timers wakeups tops origins w step l e =
    let new = stepped w step in
    let same = sizes w step in
    let h = l.hierarchy in
    let walks_old = walks_fit w l in
    let edges_old = edges_fit w l in
    let cpus_old = cpus_fit w l in
    let timers_old = timers_fit w l in
    let walks_new = over w new same (λ t. WalksFit t (scene_of new)) (walks w step h walks_old e) in
    let edges_new = over w new same (λ t. EdgesFit t (scene_of new)) (edges w step h l.sized walks_old edges_old e) in
    let bits_new = over w new same (λ t. BitsFit t (scene_of new)) (bits w step h l.sized walks_old edges_old (bits_fit w l) e) in
    let locks_new = over w new same (λ t. LocksHold t (scene_of new)) (locks w step h l.sized walks_old l.locks e) in
    let events_new = over w new same (λ t. EventsFit t (scene_of new)) (events w step h l.sized walks_old edges_old l.ignored l.locks (events_fit w l) e) in
    let cpus_new = cpus w step walks_old cpus_old e in
    let markers_new = markers w step cpus_old (marks_fit w l) e in
    let timers_new = timers w step l.sized timers_old e in
    let wakeups_new = wakeups w step h l.sized l.timers walks_old edges_old cpus_old (wakeups_fit w l) e in
    let tops_new = tops w step h l.sized l.timers l.event_origins walks_old edges_old l.ignored l.sights l.locks cpus_old l.markers (tops_fit w l) e in
    let origins_new = origins w step h l.sized walks_old timers_old (origins_fit w l) e in
    let h_new = over w new same IsHierarchy h in
    record {
      hierarchy = h_new;
      sized = sized_after w new same l.sized;
      placed = walks_new.placed;
      flags = walks_new.flags;
      walkers = walks_new.walkers;
      some_placed = markers_new.some_placed;
      marked = cpus_new.marked;
      found = cpus_new.found;
      own_event = wakeups_new.own_event;
      off_at_rest = cpus_new.at_rest;
      no_never = tops_new.no_never;
      times = timers_new.times;
      groups = edges_new.groups;
      edges = edges_new.edges;
      reads = edges_new.reads;
      bits = bits_new.bits;
      known = bits_new.known;
      ignored = marks new.tree (scene_of new) h_new walks_new edges_new;
      told = events_new.told;
      best = events_new.best;
      sights = events_new.sights;
      answered = tops_new.answered;
      first = tops_new.first;
      wakeups = wakeups_new.wakeups;
      walk_times = cpus_new.times;
      no_wakeup = cpus_new.no_wakeup;
      locks = locks_new;
      markers = markers_new.markers;
      remote = cpus_new.remote;
      timers = timers_new.timers;
      time_origins = origins_new.times;
      event_origins = origins_new.events;
      best_origins = origins_new.bests;
    }

pub lists_lawful : StepsStayLawful → ListsStayLawful
lists_lawful one w [] l each = l
lists_lawful one w (step ∷ rest) l each = lists_lawful one (stepped w step) rest (one w step l each.0) each.1
