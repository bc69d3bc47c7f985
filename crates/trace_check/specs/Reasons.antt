-- who answers for a timer in a world of the core, whatever walks and interrupts are under way
use Rattle.std.specs.Prelude.{◌≡◌, ◌⊎◌, ℕ, ◌≤◌}
use Rattle.wheel_core.specs.declared.item.Item.{Item}
use Rattle.coverage.specs.Coverage.{Held, TopWakes, WakesItself, Woken}
use Rattle.core_world.specs.Covered.{Carried, machine_of}
use Rattle.core_world.specs.Covered as covers
use Rattle.core_world.specs.World.{World}
use Rattle.step_core.specs.core_facts.Cover.Headline.{IsWaiting}
use Rattle.trace_check.specs.declared.reason.Reason.{Reason}
use Rattle.trace_check.specs.declared.reason.Reason.TheVariants as reasons

-- HELD from group g by CPU m: the lowest group by which it is, and the CPU to which its migrators
-- lead
pub record IsHeldFrom (w : World) (c wheel g m : ℕ) : Type 0 where
  pub held : Held (machine_of w) c wheel
  pub group : held.in_group ≡ g
  pub runner : held.runner ≡ m
  pub lowest : (other : Held (machine_of w) c wheel) → held.level ≤ other.level

-- the CPU wakes in time itself
pub record WakesAt (w : World) (c wheel d at : ℕ) : Type 0 where
  pub own : WakesItself (machine_of w) c wheel
  pub waker : c ≡ d
  pub time : own.at ≡ at

-- it doesn't, and of the CPUs that wake for the top this one is the lowest
pub record IsLowestWaker (w : World) (c wheel d at : ℕ) : Type 0 where
  pub not_itself : WakesItself (machine_of w) c wheel → ⊥
  pub top : TopWakes (machine_of w) c wheel
  pub waker : top.wakes.waker ≡ d
  pub time : top.wakes.at ≡ at
  pub lowest : (other : TopWakes (machine_of w) c wheel) → d ≤ other.wakes.waker

-- WOKEN FOR by CPU d at a time: itself, else the lowest
abbrev pub IsWokenForBy : World → (c wheel d at : ℕ) → Type 0
IsWokenForBy w c wheel d at = WakesAt w c wheel d at ⊎ IsLowestWaker w c wheel d at

-- the number of a case in which a walk or an interrupt carries: 1 is the CPU's own, 2 an inactive
-- group of its path below the top, 3 the role of a migrator, 4 an idle top
abbrev pub case_of : (w : World) (c wheel : ℕ) → Carried w c wheel → ℕ
case_of w c wheel (covers.by_walk k walk kind) = 1
case_of w c wheel (covers.by_interrupt inside) = 1
case_of w c wheel (covers.on_the_way level x told at off below by) = 2
case_of w c wheel (covers.by_role level g z told at leads off by) = 3
case_of w c wheel (covers.at_idle_top level top e told at last off event by under_way) = 4

-- CARRIED in this case, and in no lower one
pub record IsCarriedIn (w : World) (c wheel case : ℕ) : Type 0 where
  pub carried : Carried w c wheel
  pub number : case_of w c wheel carried ≡ case
  pub least : (other : Carried w c wheel) → case ≤ case_of w c wheel other

-- Held comes first
pub record IsWokenAlone (w : World) (c wheel d at : ℕ) : Type 0 where
  pub not_held : Held (machine_of w) c wheel → ⊥
  pub woken : IsWokenForBy w c wheel d at

-- and then Woken
pub record IsCarriedAlone (w : World) (c wheel case : ℕ) : Type 0 where
  pub not_held : Held (machine_of w) c wheel → ⊥
  pub not_woken : Woken (machine_of w) c wheel → ⊥
  pub carried : IsCarriedIn w c wheel case

-- THE FIRST of Held, Woken and Carried that holds for a wheel expiry of CPU c
abbrev pub IsFirstReason : World → (c wheel : ℕ) → Reason → Type 0
IsFirstReason w c wheel (reasons.Held group cpu) = IsHeldFrom w c wheel group.0 cpu.0
IsFirstReason w c wheel (reasons.Woken cpu at) = IsWokenAlone w c wheel cpu.0 at
IsFirstReason w c wheel (reasons.Carried case) = IsCarriedAlone w c wheel case

-- CPU c is online and idle, and the timer is in its global base, as this item
pub record IsAsked (w : World) (c timer : ℕ) (item : Item) : Type 0 where
  pub waiting : IsWaiting w c item
  pub timers : item.id ≡ timer

-- THE REASON of a timer on CPU c: the first that holds for its wheel expiry
pub record IsReason (w : World) (c timer : ℕ) (reason : Reason) : Type 0 where
  pub item : Item
  pub asked : IsAsked w c timer item
  pub first : IsFirstReason w c item.wheel reason

-- there is none: the CPU isn't online and idle, or the timer isn't in its global base
abbrev pub HasNoReason : World → (c timer : ℕ) → Type 0
HasNoReason w c timer = (item : Item) → IsAsked w c timer item → ⊥
