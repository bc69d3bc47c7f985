-- why a step isn't enabled: one fact of the world that forbids it
use Rattle.std.specs.Prelude.{◌≡◌, ◌≢◌, ◌⊎◌, ℕ, ◌+◌, ◌<◌, ◌≤◌, Some, None, length, true, false}
use Rattle.tm_base.specs.declared.names.Class.{Class}
use Rattle.wheel_core.specs.declared.item.Item.{Item}
use Rattle.wheel_core.specs.PlainBase.{NoneBehind, next_out}
use Rattle.cpu_bases.specs.CpuBases.{base_of, class_in}
use Rattle.tree_plan.specs.Paths.{is_placed_in, level_of, place_of}
use Rattle.walk_rules.specs.declared.walk.Walk.{Walk}
use Rattle.walk_rules.specs.declared.walk.Stage.TheVariants as stages
use Rattle.core_world.specs.Enabled.{IsDueAtLeaf, IsReevaluating, MarksNobody, MayBeMissed}
use Rattle.core_world.specs.Enabled.{MayRun, first_event}
use Rattle.core_world.specs.Steps.{child_here, first_moved, here}
use Rattle.core_world.specs.World.{World, cpu_of, group_of}
use Rattle.step_causes.specs.declared.causes.Cause.{Cause}
use Rattle.step_causes.specs.declared.causes.Cause.TheVariants as causes
use Rattle.step_causes.specs.declared.causes.CpuFact.{CpuFact}
use Rattle.step_causes.specs.declared.causes.CpuFact.TheVariants as facts

-- CPU c's walk waits to hand on
abbrev pub IsHandingOn : World → (c : ℕ) → Type 0
IsHandingOn w c = (k : Walk) × ((cpu_of w c).walk ≡ Some k) × (k.stage ≡ stages.Handing)

-- CPU c has a walk, which doesn't wait to hand on
abbrev pub IsWalkingOn : World → (c : ℕ) → Type 0
IsWalkingOn w c = (k : Walk) × ((cpu_of w c).walk ≡ Some k) × (k.stage ≢ stages.Handing)

-- WHAT A FACT SAYS of CPU c
abbrev pub IsSuch : World → (c : ℕ) → CpuFact → Type 0
IsSuch w c facts.Missing = length w.cpus ≤ c
IsSuch w c facts.HasWalk = (cpu_of w c).walk ≢ None
IsSuch w c facts.HasNoWalk = (cpu_of w c).walk ≡ None
IsSuch w c facts.WaitsToHandOn = IsHandingOn w c
IsSuch w c facts.WalksOn = IsWalkingOn w c
IsSuch w c facts.Reevaluates = IsReevaluating w c
IsSuch w c facts.Offline = (cpu_of w c).online ≡ false
IsSuch w c facts.Online = (cpu_of w c).online ≡ true
IsSuch w c facts.Idle = (cpu_of w c).idle ≡ true
IsSuch w c facts.NotIdle = (cpu_of w c).idle ≡ false
IsSuch w c facts.OnlineIdle = ((cpu_of w c).online ≡ true) × ((cpu_of w c).idle ≡ true)
IsSuch w c facts.IdleOutside = ((cpu_of w c).idle ≡ true) × ((cpu_of w c).inside ≡ false)
IsSuch w c facts.Inside = (cpu_of w c).inside ≡ true
IsSuch w c facts.Outside = (cpu_of w c).inside ≡ false
IsSuch w c facts.Isolated = is_placed_in w.tree c ≡ false
IsSuch w c facts.LastOnline = MayBeMissed w c → ⊥
IsSuch w c facts.Marks = MarksNobody w c → ⊥
IsSuch w c facts.Unmarked = (cpu_of w c).mark ≡ None
IsSuch w c facts.EventNotDue = IsDueAtLeaf w c → ⊥

-- the lock that a walk takes next is that of group g
abbrev pub TakesLock : World → (c : ℕ) → Walk → (g : ℕ) → Type 0
TakesLock w c k g =
    ((k.stage ≡ stages.LockChild) × (g ≡ child_here w c k)) ⊎
    ((k.stage ≡ stages.LockGroup) × (g ≡ here w c k))

-- CPU c's walk waits for the lock of the group of this level and place, which another walk has
pub record WaitsForLock (w : World) (c level place by : ℕ) : Type 0 where
  pub made : Walk
  pub walk : (cpu_of w c).walk ≡ Some made
  pub group : ℕ
  pub takes : TakesLock w c made group
  pub level_is : level_of w.tree group ≡ level
  pub place_is : place_of w.tree group ≡ place
  pub taken : (group_of w group).lock ≡ Some by

-- the timer is queued on CPU c, where nothing of its class is due
pub record HasNoneDue (w : World) (c timer : ℕ) : Type 0 where
  pub class : Class
  pub queued : class_in timer (cpu_of w c).bases ≡ Some class
  pub none : next_out w.clock (base_of class (cpu_of w c).bases) ≡ None

-- the timer is queued on CPU c, where another one of its class goes out before it
pub record GoesBefore (w : World) (c timer first : ℕ) : Type 0 where
  pub class : Class
  pub item : Item
  pub queued : class_in timer (cpu_of w c).bases ≡ Some class
  pub next : next_out w.clock (base_of class (cpu_of w c).bases) ≡ Some item
  pub firsts : item.id ≡ first

-- this timer of the class is due on CPU c, and goes out next
pub record IsDueNext (w : World) (c : ℕ) (class : Class) (timer : ℕ) : Type 0 where
  pub item : Item
  pub next : next_out w.clock (base_of class (cpu_of w c).bases) ≡ Some item
  pub timers : item.id ≡ timer

-- the timer is queued on CPU c, in a class that the runner may not run there
pub record MayNotRunIt (w : World) (c timer runner : ℕ) : Type 0 where
  pub class : Class
  pub queued : class_in timer (cpu_of w c).bases ≡ Some class
  pub not_run : MayRun w c class runner → ⊥

-- the timer isn't what moves first from CPU c
abbrev pub MovesNotFirst : World → (c timer : ℕ) → Type 0
MovesNotFirst w c timer = (class : Class) (item : Item) →
    first_moved (cpu_of w c).bases ≡ Some (class, item) → item.id ≡ timer → ⊥

-- where the first timer to move would come to, a timer of its class is behind the base's clock
pub record IsBehindThere (w : World) (from to : ℕ) : Type 0 where
  pub class : Class
  pub item : Item
  pub first : first_moved (cpu_of w from).bases ≡ Some (class, item)
  pub behind : NoneBehind (base_of class (cpu_of w to).bases) → ⊥

-- WHAT A CAUSE SAYS of a world; that a CPU would hand on to itself is a fact of the step alone
abbrev pub IsSo : World → Cause → Type 0
IsSo w (causes.Cpu cpu fact) = IsSuch w cpu.0 fact
IsSo w (causes.NoSuchTimer timer) = w.timers ≤ timer.0
IsSo w (causes.Past at) = at < w.clock
IsSo w (causes.TooLate at limit) = limit ≤ at
IsSo w (causes.Marked cpu by) = (cpu_of w cpu.0).mark ≡ Some by.0
IsSo w (causes.LockTaken cpu level place by) = WaitsForLock w cpu.0 level place by.0
IsSo w (causes.ToItself cpu) = Unit {0}
IsSo w (causes.EventSoon cpu at) =
    (first_event (cpu_of w cpu.0).bases ≡ at) × (at ≤ w.clock + 1)
IsSo w (causes.Queued timer on) = class_in timer.0 (cpu_of w on.0).bases ≢ None
IsSo w (causes.NotQueued timer cpu) = class_in timer.0 (cpu_of w cpu.0).bases ≡ None
IsSo w (causes.Behind cpu class) = NoneBehind (base_of class (cpu_of w cpu.0).bases) → ⊥
IsSo w (causes.BehindThere from to) = IsBehindThere w from.0 to.0
IsSo w (causes.NoneDue timer cpu) = HasNoneDue w cpu.0 timer.0
IsSo w (causes.NotNext timer cpu first) = GoesBefore w cpu.0 timer.0 first
IsSo w (causes.NotFirst timer cpu) = MovesNotFirst w cpu.0 timer.0
IsSo w (causes.Due cpu class timer) = IsDueNext w cpu.0 class timer
IsSo w (causes.NoRunner cpu class runner) = MayRun w cpu.0 class runner.0 → ⊥
IsSo w (causes.NoRunnerOf timer cpu runner) = MayNotRunIt w cpu.0 timer.0 runner.0

-- THE CAUSE that something may not be done: so it is here, and wherever it is so that may not be
-- done
pub record IsCause (w : World) (may : World → Type 0) (cause : Cause) : Type 0 where
  pub so : IsSo w cause
  pub forbids : (v : World) → IsSo v cause → may v → ⊥
