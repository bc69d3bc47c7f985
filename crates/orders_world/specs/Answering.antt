-- who answers for the global timers of a CPU in any world, whatever walks and interrupts are under
-- way in it
use Rattle.std.specs.Prelude.{◌≡◌, ◌⊎◌, ℕ, ◌≤◌, Some, true}
use Rattle.coverage.specs.Coverage.{Held, TopWakes, WakesItself, Woken}
use Rattle.walk_rules.specs.declared.walk.Walk.{Walk}
use Rattle.core_world.specs.Covered.{IsSettled, machine_of}
use Rattle.core_world.specs.World.{World, cpu_of}
use Rattle.orders_world.specs.declared.answering.Answer.{Answer}
use Rattle.orders_world.specs.declared.answering.Answer.TheVariants as answers

-- HELD through group g, at this level of the path, with CPU m as runner
pub record IsHeldThrough (w : World) (c wheel level g m : ℕ) : Type 0 where
  pub held : Held (machine_of w) c wheel
  pub level_is : held.level ≡ level
  pub group_is : held.in_group ≡ g
  pub runner_is : held.runner ≡ m

-- the CPU wakes in time itself
pub record WakesItselfAt (w : World) (c wheel d at : ℕ) : Type 0 where
  pub own : WakesItself (machine_of w) c wheel
  pub waker_is : c ≡ d
  pub time_is : own.at ≡ at

-- it doesn't, and CPU d wakes for the top, the lowest CPU that does
pub record WakesForTop (w : World) (c wheel d at : ℕ) : Type 0 where
  pub not_itself : WakesItself (machine_of w) c wheel → ⊥
  pub top : TopWakes (machine_of w) c wheel
  pub waker_is : top.wakes.waker ≡ d
  pub time_is : top.wakes.at ≡ at
  pub lowest : (other : TopWakes (machine_of w) c wheel) → d ≤ other.wakes.waker

-- WOKEN by CPU d at this time, and not held
pub record IsWokenFirst (w : World) (c wheel d at : ℕ) : Type 0 where
  pub not_held : Held (machine_of w) c wheel → ⊥
  pub woken : WakesItselfAt w c wheel d at ⊎ WakesForTop w c wheel d at

-- some CPU has a walk, or is inside its interrupt
abbrev pub SomeUnderWay : World → Type 0
SomeUnderWay w =
    (d : ℕ) × (((k : Walk) × ((cpu_of w d).walk ≡ Some k)) ⊎ ((cpu_of w d).inside ≡ true))

-- NEITHER held nor woken for, and so it is with what is under way
pub record IsNeither (w : World) (c wheel : ℕ) (UnderWay : Type 0) : Type 0 where
  pub not_held : Held (machine_of w) c wheel → ⊥
  pub not_woken : Woken (machine_of w) c wheel → ⊥
  pub under_way : UnderWay

-- WHO ANSWERS for a wheel expiry of CPU c, in jiffies: the first of Held and Woken that holds;
-- where neither does, whether anything is under way that may yet see to it
abbrev pub IsAnswer : World → (c wheel : ℕ) → Answer → Type 0
IsAnswer w c wheel (answers.Held level group cpu) = IsHeldThrough w c wheel level group.0 cpu.0
IsAnswer w c wheel (answers.Woken cpu at) = IsWokenFirst w c wheel cpu.0 at
IsAnswer w c wheel answers.UnderWay = IsNeither w c wheel (SomeUnderWay w)
IsAnswer w c wheel answers.Nobody = IsNeither w c wheel (IsSettled w)
