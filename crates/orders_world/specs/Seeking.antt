-- how is looked for who answers (no public clause cites it)
use Rattle.std.specs.Prelude.{◌≡◌, ℕ, ◌+◌, ◌≤◌, Some, None, true, false}
use Rattle.tm_base.specs.declared.names.Child.{Child}
use Rattle.event_queue.specs.EventMap.{event_at}
use Rattle.tree_plan.specs.Paths.{child_at, group_at_of, is_placed_in}
use Rattle.coverage.specs.Coverage.{HasEvent, Told}
use Rattle.walk_rules.specs.Hierarchy.{side}
use Rattle.core_world.specs.Covered.{kept_wakeup, live_expiry, machine_of}
use Rattle.core_world.specs.World.{World, cpu_of, group_of}

-- the path of CPU c has no active group at this level
abbrev pub IsAsleepAt : World → (c level : ℕ) → Type 0
IsAsleepAt w c level =
    (g : ℕ) → group_at_of w.tree c level ≡ Some g → (group_of w g).migrator ≡ None

-- the level was told of the wheel expiry, and is asleep
pub record GoesThrough (w : World) (c wheel level : ℕ) : Type 0 where
  pub event : HasEvent (machine_of w) c wheel level
  pub asleep : IsAsleepAt w c level

-- the child is the migrator of group g
pub record LooksAfter (w : World) (g : ℕ) (z : Child) : Type 0 where
  pub number : ℕ
  pub named : (group_of w g).migrator ≡ Some number
  pub child : child_at w.tree g number ≡ Some z

-- a placed CPU keeps a wakeup by a time
pub record KeepsBy (w : World) (time d at : ℕ) : Type 0 where
  pub placed : is_placed_in w.tree d ≡ true
  pub keeps : kept_wakeup (cpu_of w d) ≡ Some at
  pub in_time : at ≤ time

-- the lowest CPU that does
pub record IsLowestBy (w : World) (time d at : ℕ) : Type 0 where
  pub keeps : KeepsBy w time d at
  pub lowest : (e x : ℕ) → KeepsBy w time e x → d ≤ e

-- the top, inactive, was told of this time
pub record TopTold (w : World) (c wheel time : ℕ) : Type 0 where
  pub level : ℕ
  pub top : ℕ
  pub on_path : group_at_of w.tree c level ≡ Some top
  pub is_top : group_at_of w.tree c (level + 1) ≡ None
  pub told : Told (machine_of w) c wheel level
  pub inactive : (group_of w top).migrator ≡ None
  pub event : live_expiry (event_at (group_of w top).events (side w.tree c level)) ≡ Some time

-- the CPU has no walk and is outside its interrupt
pub record RestsAt (w : World) (d : ℕ) : Type 0 where
  pub free : (cpu_of w d).walk ≡ None
  pub outside : (cpu_of w d).inside ≡ false
