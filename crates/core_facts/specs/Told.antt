-- what a walk has told as it finishes
use Rattle.std.specs.Prelude.{◌≡◌, ◌≢◌, ℕ, Option, Some, None}
use Rattle.tm_base.specs.declared.names.TheConstants.{NEVER}
use Rattle.event_queue.specs.declared.event.Event.{Event}
use Rattle.event_queue.specs.EventMap.{Counts, event_at}
use Rattle.cpu_bases.specs.CpuBases.{events_of}
use Rattle.tree_plan.specs.Paths.{group_at_of}
use Rattle.walk_rules.specs.declared.walk.Walk.{Walk}
use Rattle.walk_rules.specs.declared.walk.Stage.TheVariants as stages
use Rattle.walk_rules.specs.Hierarchy.{side}
use Rattle.core_world.specs.Lawful.{IsLawful}
use Rattle.core_world.specs.Wakeups.{next_for}
use Rattle.core_world.specs.World.{World, cpu_of, group_of}

-- the event of CPU c at a time
pub record IsEventOf (c time : ℕ) (e : Event) : Type 0 where
  pub expiry : e.expiry ≡ time
  pub cpu : e.cpu.0 ≡ c
  pub counts : Counts e

-- a slot says that CPU c wants to be woken at a time: it has its event, or is empty where that time
-- never comes
pub record SaysOf (c time : ℕ) (slot : Option Event) : Type 0 where
  pub none : time ≡ NEVER → slot ≡ None
  pub some : time ≢ NEVER → (e : Event) × (slot ≡ Some e) × IsEventOf c time e

-- at Finish of a walk of c that isn't an activation, c's slot in its leaf says what the walk was to
-- tell, which is what c's timers say
pub record HasToldOwn (w : World) (c leaf : ℕ) (k : Walk) : Type 0 where
  pub slot : SaysOf c k.next (event_at (group_of w leaf).events (side w.tree c 0))
  pub next : k.next ≡ next_for k.kind (events_of (cpu_of w c).bases).next

-- in every lawful world, as a walk that isn't an activation finishes, its CPU's slot in the leaf
-- says what the CPU's timers say
abbrev pub EachHasToldOwn : Type 0
EachHasToldOwn = (w : World) → IsLawful w → (c leaf : ℕ) (k : Walk) →
    (cpu_of w c).walk ≡ Some k → k.stage ≡ stages.Finish → group_at_of w.tree c 0 ≡ Some leaf →
    HasToldOwn w c leaf k
