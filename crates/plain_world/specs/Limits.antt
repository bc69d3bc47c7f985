-- where the numbers of a step are those that a machine can follow, and which steps take memory
use Rattle.std.specs.Prelude.{◌≡◌, ℕ, ◌+◌, ◌^◌, ◌<◌, Some}
use Rattle.std.specs.Option.{ForSome}
use Rattle.tm_base.specs.declared.names.TheConstants.{TIME_LIMIT}
use Rattle.tm_base.specs.declared.names.Class.{Class}
use Rattle.wheel_core.specs.declared.item.Item.{Item}
use Rattle.wheel_core.specs.PlainBase.{forwarded, next_out}
use Rattle.cpu_bases.specs.CpuBases.{CpuBases, base_of, class_in}
use Rattle.walk_rules.specs.declared.walk.Walk.{Walk}
use Rattle.walk_rules.specs.declared.walk.Stage.{Stage}
use Rattle.walk_rules.specs.declared.walk.Stage.TheVariants as stages
use Rattle.core_world.specs.declared.step.Step.{Step}
use Rattle.core_world.specs.declared.step.Step.TheVariants as steps
use Rattle.core_world.specs.Steps.{first_moved}
use Rattle.core_world.specs.World.{World, cpu_of}
use Rattle.plain_world.specs.declared.lack.Lack.{Lack}
use Rattle.plain_world.specs.declared.lack.Lack.TheVariants as lacks

-- a group has eight slots
abbrev pub SlotFits : Stage → Type 0
SlotFits (stages.Scan k) = k < 8
SlotFits (stages.First k) = k < 8
SlotFits other = Unit {0}

-- a walk has a level above its own, and reads a slot that there is
pub record WalkFits (k : Walk) : Type 0 where
  pub level : k.level < 255
  pub slot : SlotFits k.stage

-- an item's number is a timer's, and the jiffy behind its wheel expiry has 64 bits
pub record ItemFits (item : Item) : Type 0 where
  pub timer : item.id < 2 ^ 16
  pub wheel : item.wheel + 1 < 2 ^ 64

-- what goes out next of a base at a time, where anything does, fits
abbrev pub NextFits : (now : ℕ) → Class → CpuBases → Type 0
NextFits now class bases = ForSome (next_out now (base_of class bases)) ItemFits

-- what goes out next of a timer's class fits, where the timer is queued
pub record HandFits (now timer : ℕ) (bases : CpuBases) : Type 0 where
  pub fits : (class : Class) → class_in timer bases ≡ Some class → NextFits now class bases

-- a timer that is queued at this time is within the times of the wheel
pub record QueueFits (time : ℕ) (class : Class) (expires : ℕ) (bases : CpuBases) : Type 0 where
  pub in_range : time < 2 ^ 64
  pub in_time : expires < TIME_LIMIT
  pub clock_in_time : (forwarded time (base_of class bases)).clock < TIME_LIMIT

-- a timer that moves has the number of a timer, and is queued at the next jiffy
pub record MoveFits (now : ℕ) (class : Class) (item : Item) (bases : CpuBases) : Type 0 where
  pub timer : item.id < 2 ^ 16
  pub queue : QueueFits (now + 1) class item.expires bases

-- the timer that moves first from one CPU to another fits
pub record FirstFits (now : ℕ) (from to : CpuBases) : Type 0 where
  pub fits : (class : Class) (item : Item) → first_moved from ≡ Some (class, item)
      → MoveFits now class item to

-- WHERE A STEP CAN BE FOLLOWED: all its numbers are those that a machine can follow. So it is in
-- every world of a planned machine that steps lead to.
abbrev pub IsFollowed : World → Step → Type 0
IsFollowed w (steps.Arm cpu timer class expires job arg line) =
    QueueFits w.clock class expires (cpu_of w cpu.0).bases
IsFollowed w (steps.Hand cpu timer runner) =
    HandFits w.clock timer.0 (cpu_of w cpu.0).bases
IsFollowed w (steps.Ticked cpu class runner) = NextFits w.clock class (cpu_of w cpu.0).bases
IsFollowed w (steps.Move from to timer) =
    FirstFits w.clock (cpu_of w from.0).bases (cpu_of w to.0).bases
IsFollowed w (steps.Walk cpu) = ForSome (cpu_of w cpu.0).walk WalkFits
IsFollowed w other = Unit {0}

-- which steps take memory: those that write an entry into a journal
abbrev pub TakesMemory : Step → Type 0
TakesMemory (steps.Arm cpu timer class expires job arg line) = Unit {0}
TakesMemory (steps.Cancel cpu timer by line) = Unit {0}
TakesMemory (steps.Hand cpu timer runner) = Unit {0}
TakesMemory (steps.Ticked cpu class runner) = Unit {0}
TakesMemory (steps.Move from to timer) = Unit {0}
TakesMemory other = ⊥

-- WHERE A STEP MAY GIVE UP: for want of memory where it takes some, and where it can't be followed
abbrev pub MayLack : World → Step → Lack → Type 0
MayLack w step lacks.Memory = TakesMemory step
MayLack w step lacks.Range = IsFollowed w step → ⊥
