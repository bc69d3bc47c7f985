-- a timer is queued at most once, and each arming has at most one end
use Rattle.std.specs.Prelude.{◌≡◌, ℕ, Some, slice_get}
use Rattle.tm_base.specs.declared.names.Class.{Class}
use Rattle.wheel_core.specs.declared.item.Item.{Item}
use Rattle.cpu_bases.specs.declared.entry.Entry.{Entry}
use Rattle.cpu_bases.specs.CpuBases.{base_of}
use Rattle.cpu_bases.specs.Laws.{EndFits, IsEndOf}
use Rattle.core_world.specs.Lawful.{IsLawful}
use Rattle.core_world.specs.World.{World, cpu_of}

-- the timer is queued on CPU c, in the base of this class, at this place of its list
pub record IsQueuedAt (w : World) (timer c : ℕ) (class : Class) (place : ℕ) : Type 0 where
  pub item : Item
  pub there : slice_get (base_of class (cpu_of w c).bases).items place ≡ Some item
  pub timers : item.id ≡ timer

-- two places where a timer is queued are one
pub record IsOnePlace (c : ℕ) (class : Class) (place d : ℕ) (other : Class) (spot : ℕ) :
    Type 0 where
  pub cpu : c ≡ d
  pub class_is : class ≡ other
  pub place_is : place ≡ spot

-- two places of CPU c's journal where an arming ends are one, and what stands there fits it
pub record IsOneEnd (c j k : ℕ) (arming ending : Entry) : Type 0 where
  pub place_is : j ≡ k
  pub fits : EndFits c arming ending

-- AT MOST ONCE
pub record IsOnce (w : World) : Type 0 where
  pub queued : (timer c d : ℕ) (class other : Class) (place spot : ℕ) →
      IsQueuedAt w timer c class place → IsQueuedAt w timer d other spot →
      IsOnePlace c class place d other spot
  pub ended : (c i j k : ℕ) (arming one other : Entry) →
      IsEndOf (cpu_of w c).bases.journal i j arming one →
      IsEndOf (cpu_of w c).bases.journal i k arming other → IsOneEnd c j k arming one

-- in every lawful world each timer is queued at most once, and each arming has at most one end
abbrev pub EachOnce : Type 0
EachOnce = (w : World) → IsLawful w → IsOnce w
