-- parts of what steps are enabled by, as a cause is looked for (no public clause cites it)
use Rattle.std.specs.Prelude.{◌≡◌, ◌⊎◌, ℕ, ◌^◌, ◌<◌, ◌≤◌, Some, None, true, false}
use Rattle.tm_base.specs.declared.names.Class.{Class}
use Rattle.tm_base.specs.declared.names.CpuId.{CpuId}
use Rattle.wheel_core.specs.declared.item.Item.{Item}
use Rattle.wheel_core.specs.PlainBase.{next_out}
use Rattle.cpu_bases.specs.CpuBases.{base_of, class_in}
use Rattle.tree_plan.specs.Paths.{is_placed_in, level_of, place_of}
use Rattle.core_world.specs.Enabled.{IsFree}
use Rattle.core_world.specs.World.{World, cpu_of, group_of, is_active}
use Rattle.step_causes.specs.declared.causes.Cause.{Cause}
use Rattle.step_causes.specs.declared.causes.Cause.TheVariants as causes

-- CPU c may arm timers
pub record IsReadyToArm (w : World) (c : ℕ) : Type 0 where
  pub is_free : IsFree w c
  pub online : (cpu_of w c).online ≡ true
  pub may_run : (is_active (cpu_of w c) ≡ true) ⊎ ((cpu_of w c).inside ≡ true)

-- the timer may be armed for this time
pub record CanBeArmed (w : World) (timer expires : ℕ) : Type 0 where
  pub known : timer < w.timers
  pub not_queued : (d : ℕ) → class_in timer (cpu_of w d).bases ≡ None
  pub to_come : w.clock ≤ expires
  pub in_time : expires < 2 ^ 47

-- the timer goes out next of its class on CPU c
pub record IsNext (w : World) (c timer : ℕ) : Type 0 where
  pub class : Class
  pub item : Item
  pub queued : class_in timer (cpu_of w c).bases ≡ Some class
  pub due : next_out w.clock (base_of class (cpu_of w c).bases) ≡ Some item
  pub timers : item.id ≡ timer

-- CPU c may take timers in
pub record IsReadyToTake (w : World) (c : ℕ) : Type 0 where
  pub is_free : IsFree w c
  pub placed : is_placed_in w.tree c ≡ true
  pub active : is_active (cpu_of w c) ≡ true
  pub outside : (cpu_of w c).inside ≡ false

-- the cause says that the lock of group g is taken, for which CPU c's walk waits
pub record IsTakenFor (w : World) (cpu : CpuId) (g : ℕ) (cause : Cause) : Type 0 where
  pub by : CpuId
  pub is : cause ≡ causes.LockTaken cpu (level_of w.tree g) (place_of w.tree g) by
  pub taken : (group_of w g).lock ≡ Some by.0
