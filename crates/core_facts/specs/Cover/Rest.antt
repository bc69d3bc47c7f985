-- a world at rest, where no walk and no interrupt is under way
use Rattle.std.specs.Prelude.{◌≡◌, ◌≢◌, ◌↔◌, ℕ, ◌≤◌, true, false, Some, None, Contains}
use Rattle.event_queue.specs.declared.event.Event.{Event}
use Rattle.event_queue.specs.EventMap.{Counts, event_at}
use Rattle.tm_base.specs.declared.names.Class.{Class}
use Rattle.tm_base.specs.declared.names.Class.TheVariants.{Deferrable}
use Rattle.tm_base.specs.declared.names.Child.{Child}
use Rattle.tm_base.specs.Children.{of_group}
use Rattle.wheel_core.specs.declared.item.Item.{Item}
use Rattle.cpu_bases.specs.CpuBases.{base_of}
use Rattle.tree_plan.specs.Paths.{IsBelow, parent_of}
use Rattle.core_world.specs.coverage.Coverage.{Leads, WakesBy}
use Rattle.walk_rules.specs.Queues.{HasTold}
use Rattle.walk_rules.specs.Scene.{HasBit, is_on}
use Rattle.core_world.specs.Covered.{IsSettled, machine_of}
use Rattle.core_world.specs.IdleTop.{IsTopGroup}
use Rattle.core_world.specs.Lawful.{IsLawful}
use Rattle.core_world.specs.Wakeups.{WakeupHolds}
use Rattle.core_world.specs.World.{World, cpu_of, group_of, is_active, scene_of}

-- an active CPU is below the group
abbrev pub HasActive : World → (g : ℕ) → Type 0
HasActive w g = (c : ℕ) × IsBelow w.tree c g × (is_active (cpu_of w c) ≡ true)

-- the migrators of the group lead to an active CPU below it
pub record LeadsDown (w : World) (g : ℕ) : Type 0 where
  pub runner : ℕ
  pub below : IsBelow w.tree runner g
  pub leads : Leads (machine_of w) runner g

-- groups at rest
pub record GroupsRest (w : World) : Type 0 where
  -- no lock is taken, and no CPU is marked
  pub free : (g : ℕ) → (group_of w g).lock ≡ None
  pub unmarked : (c : ℕ) → (cpu_of w c).mark ≡ None
  -- a bit is set exactly where its child is active
  pub bits : (m : Child) (g : ℕ) → parent_of w.tree m ≡ Some g →
      HasBit w.tree (scene_of w) m g ↔ (is_on (scene_of w) m ≡ true)
  -- a group of a path is active exactly where an active CPU is below it, and leads to one
  pub active : (c g : ℕ) → IsBelow w.tree c g →
      (is_on (scene_of w) (of_group g) ≡ true) ↔ HasActive w g
  pub leads : (c g : ℕ) → IsBelow w.tree c g → is_on (scene_of w) (of_group g) ≡ true →
      LeadsDown w g

-- events at rest
pub record EventsRest (w : World) : Type 0 where
  -- all that an inactive group knows of was told to its parent
  pub told : (x p : ℕ) → parent_of w.tree (of_group x) ≡ Some p →
      is_on (scene_of w) (of_group x) ≡ false → HasTold w.tree (scene_of w) x p
  -- for each event of an idle top a placed CPU keeps a wakeup that isn't later
  pub woken : (g k : ℕ) (e : Event) → IsTopGroup w g → (group_of w g).migrator ≡ None →
      event_at (group_of w g).events k ≡ Some e → Counts e → WakesBy (machine_of w) e.expiry
  -- an idle CPU's wakeup isn't past its first pinned timer, and it or its event in its leaf isn't
  -- past its first global one
  pub wakeups : (c : ℕ) → (cpu_of w c).online ≡ true → (cpu_of w c).idle ≡ true → WakeupHolds w c

-- in every lawful world at rest groups rest: no lock is taken, no CPU is marked, bits are right and
-- migrators lead
abbrev pub EachRests : Type 0
EachRests = (w : World) → IsLawful w → IsSettled w → GroupsRest w

-- in every lawful world at rest no event upwards is late, and no wakeup is
abbrev pub EachEventRests : Type 0
EachEventRests = (w : World) → IsLawful w → IsSettled w → EventsRest w

-- THE NEXT MOMENT: some online CPU wakes by a time
abbrev pub SomeWakes : World → (time : ℕ) → Type 0
SomeWakes w time = (c : ℕ) × ((cpu_of w c).online ≡ true) × ((cpu_of w c).wakeup ≤ time)

-- where nobody is active, for each pinned or global timer of an online CPU some online CPU wakes in
-- time
abbrev pub EachWakes : Type 0
EachWakes = (w : World) → IsLawful w → IsSettled w →
    ((c : ℕ) → is_active (cpu_of w c) ≡ false) →
    (c : ℕ) (class : Class) (item : Item) → (cpu_of w c).online ≡ true → class ≢ Deferrable →
    Contains (base_of class (cpu_of w c).bases).items item → SomeWakes w item.wheel
