-- where times and events come from: part 11 of the invariant
use Rattle.std.specs.Prelude.{◌≡◌, ◌⊎◌, ℕ, ◌<◌, Some, Contains, length}
use Rattle.tm_base.specs.declared.names.TheConstants.{NEVER}
use Rattle.tm_base.specs.declared.names.Child.{Child}
use Rattle.walk_rules.specs.event_queue.declared.event.Event.{Event}
use Rattle.walk_rules.specs.event_queue.EventMap.{event_at}
use Rattle.cpu_bases.specs.declared.entry.Entry.{Entry}
use Rattle.cpu_bases.specs.declared.entry.Act.TheVariants as acts
use Rattle.walk_rules.specs.tree_plan.Paths.{bit_of, child_towards, group_at_of}
use Rattle.walk_rules.specs.declared.walk.Walk.{Walk}
use Rattle.walk_rules.specs.Queues.{group_under}
use Rattle.core_world.specs.World.{World, cpu_of, group_of}

-- an arming with this wheel expiry stands in some journal
pub record WasArmed (w : World) (time : ℕ) : Type 0 where
  pub cpu : ℕ
  pub entry : Entry
  pub written : Contains (cpu_of w cpu).bases.journal entry
  pub arming : (entry.act ≡ acts.Armed) ⊎ (entry.act ≡ acts.MovedIn)
  pub wheel : entry.wheel ≡ time

-- part 11a: a time is the wheel expiry of an arming, or NEVER
abbrev pub HasOrigin : World → ℕ → Type 0
HasOrigin w time = (time ≡ NEVER) ⊎ WasArmed w time

-- PART 11a: wakeups and what walks carry
pub record WalkOrigins (w : World) (k : Walk) : Type 0 where
  pub pin : HasOrigin w k.pin
  pub next : HasOrigin w k.next
  pub first : HasOrigin w k.first

-- part 11a: wakeups, and the times that walks carry, are wheel expiries of armings, or NEVER
pub record TimesHaveOrigins (w : World) : Type 0 where
  pub wakeups : (c : ℕ) → c < length w.cpus → HasOrigin w (cpu_of w c).wakeup
  pub walks : (c : ℕ) (k : Walk) → (cpu_of w c).walk ≡ Some k → WalkOrigins w k

-- the path of the event's CPU comes into group g through its child number k
pub record ComesBy (w : World) (g k : ℕ) (e : Event) : Type 0 where
  pub level : ℕ
  pub child : Child
  pub through : child_towards w.tree e.cpu.0 level ≡ Some child
  pub into : group_at_of w.tree e.cpu.0 level ≡ Some g
  pub number : bit_of w.tree child ≡ k

-- PART 11b: an event's expiry is that of an arming, and its CPU is below the child
pub record EventsHaveOrigins (w : World) : Type 0 where
  pub expiry : (g k : ℕ) (e : Event) → event_at (group_of w g).events k ≡ Some e →
      HasOrigin w e.expiry
  pub below : (g k : ℕ) (e : Event) → event_at (group_of w g).events k ≡ Some e → ComesBy w g k e

-- the event's CPU is below this group
pub record IsBelowGroup (w : World) (g : ℕ) (e : Event) : Type 0 where
  pub level : ℕ
  pub there : group_at_of w.tree e.cpu.0 level ≡ Some g

-- PART 11c: and so of a walk's best
pub record BestsHaveOrigins (w : World) : Type 0 where
  pub expiry : (c : ℕ) (k : Walk) (e : Event) → (cpu_of w c).walk ≡ Some k → k.best ≡ Some e →
      HasOrigin w e.expiry
  pub below : (c g : ℕ) (k : Walk) (e : Event) → (cpu_of w c).walk ≡ Some k → k.best ≡ Some e →
      group_under w.tree c k.level ≡ Some g → IsBelowGroup w g e
