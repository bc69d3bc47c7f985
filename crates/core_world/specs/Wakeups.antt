-- wakeups and the events that CPUs have in their leaves: part 8 of the invariant, OwnEvent and
-- OffAtRest
use Rattle.std.specs.Prelude.{◌≡◌, ◌⊎◌, ℕ, ◌<◌, ◌≤◌, Bool, true, false, Option, Some, None}
use Rattle.tm_base.specs.declared.names.TheConstants.{NEVER}
use Rattle.walk_rules.specs.event_queue.declared.event.Event.{Event}
use Rattle.walk_rules.specs.event_queue.EventMap.{Counts, event_at}
use Rattle.cpu_bases.specs.CpuBases.{events_of}
use Rattle.walk_rules.specs.tree_plan.Paths.{group_at_of}
use Rattle.walk_rules.specs.declared.walk.Walk.{Walk}
use Rattle.walk_rules.specs.declared.walk.WalkKind.{WalkKind}
use Rattle.walk_rules.specs.declared.walk.WalkKind.TheVariants as kinds
use Rattle.walk_rules.specs.declared.walk.Stage.{Stage}
use Rattle.walk_rules.specs.declared.walk.Stage.TheVariants as stages
use Rattle.walk_rules.specs.Hierarchy.{side}
use Rattle.walk_rules.specs.Stages.{is_remote, leaf_event}
use Rattle.walk_rules.specs.Standing.{Tells}
use Rattle.core_world.specs.World.{CpuRecord, World, cpu_of, group_of, is_active}

-- a CPU without a walk, or with one that another CPU makes for it
abbrev pub is_undisturbed : Option Walk → Bool
is_undisturbed None = true
is_undisturbed (Some k) = is_remote k.kind

-- the CPU keeps its wakeup: it won't let go of it by what it is doing now
pub record Keeps (y : CpuRecord) : Type 0 where
  pub online : y.online ≡ true
  pub idle : y.idle ≡ true
  pub outside : y.inside ≡ false
  pub undisturbed : is_undisturbed y.walk ≡ true

-- the CPU's event in its leaf is there, isn't ignored and isn't later than a time
pub record HasLeafEvent (w : World) (c time : ℕ) : Type 0 where
  pub leaf : ℕ
  pub event : Event
  pub path : group_at_of w.tree c 0 ≡ Some leaf
  pub there : event_at (group_of w leaf).events (side w.tree c 0) ≡ Some event
  pub counts : Counts event
  pub in_time : event.expiry ≤ time

-- PART 8a: a kept wakeup isn't later than the first pinned timer, and it or the leaf event isn't
-- later than the first global one
pub record WakeupHolds (w : World) (c : ℕ) : Type 0 where
  pub pinned : (cpu_of w c).wakeup ≤ (events_of (cpu_of w c).bases).pin
  pub global : ((cpu_of w c).wakeup ≤ (events_of (cpu_of w c).bases).first_global) ⊎
      HasLeafEvent w c (events_of (cpu_of w c).bases).first_global

-- part 8a: a kept wakeup isn't past the CPU's first pinned timer, and it or the event in the leaf
-- isn't past its first global one
abbrev pub WakeupsHold : World → Type 0
WakeupsHold w = (c : ℕ) → Keeps (cpu_of w c) → WakeupHolds w c

-- PART 8b: what a walk is to be woken for is what its CPU has; a CPU that goes offline tells
-- nothing
abbrev pub next_for : WalkKind → (next : ℕ) → ℕ
next_for kinds.Activate next = next
next_for kinds.Deactivate next = next
next_for kinds.Offline next = NEVER
next_for kinds.Reeval next = next
next_for (kinds.Remote by) next = next

-- part 8b: what a walk has to wake its CPU for is what the CPU's timers say; of one that goes
-- offline nothing is told
pub record WalkTimes (y : CpuRecord) (k : Walk) : Type 0 where
  pub pin : k.pin ≡ (events_of y.bases).pin
  pub next : k.next ≡ next_for k.kind (events_of y.bases).next

-- part 8b, of every walk
abbrev pub WalkTimesHold : World → Type 0
WalkTimesHold w = (c : ℕ) (k : Walk) → (cpu_of w c).walk ≡ Some k → WalkTimes (cpu_of w c) k

-- PART 8c: an active or offline CPU has no wakeup
abbrev pub NoWakeupAwake : World → Type 0
NoWakeupAwake w = (c : ℕ) → ((cpu_of w c).online ≡ false) ⊎ (is_active (cpu_of w c) ≡ true) →
    (cpu_of w c).wakeup ≡ NEVER

-- a stage past Store
abbrev pub is_past_store : Stage → Bool
is_past_store (stages.First k) = true
is_past_store stages.FreeGroup = true
is_past_store stages.FreeChild = true
is_past_store stages.Finish = true
is_past_store stages.Handing = true
is_past_store other = false

-- OWNEVENT: from Store at the leaf on, a walk that tells has told its CPU's `next` there
abbrev pub OwnEvent : World → Type 0
OwnEvent w = (c leaf : ℕ) (k : Walk) → (cpu_of w c).walk ≡ Some k → Tells k.kind →
    group_at_of w.tree c 0 ≡ Some leaf → (0 < k.level) ⊎ (is_past_store k.stage ≡ true) →
    event_at (group_of w leaf).events (side w.tree c 0) ≡ leaf_event c k.next

-- OFFATREST
pub record IsAtRest (y : CpuRecord) : Type 0 where
  pub idle : y.idle ≡ true
  pub outside : y.inside ≡ false

-- an offline CPU is idle and outside its interrupt
abbrev pub OffAtRest : World → Type 0
OffAtRest w = (c : ℕ) → (cpu_of w c).online ≡ false → IsAtRest (cpu_of w c)
