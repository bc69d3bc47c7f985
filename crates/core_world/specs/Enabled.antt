-- where each step is enabled
use Rattle.std.specs.Prelude.{◌≡◌, ◌≢◌, ◌⊎◌, ℕ, ◌+◌, ◌-◌, ◌^◌, ◌<◌, ◌≤◌, true, false, Some, None}
use Rattle.std.specs.Prelude.{min, length}
use Rattle.tm_base.specs.declared.names.Class.{Class}
use Rattle.tm_base.specs.declared.names.Class.TheVariants.{Global}
use Rattle.walk_rules.specs.event_queue.declared.event.Event.{Event}
use Rattle.walk_rules.specs.event_queue.EventMap.{Counts, event_at}
use Rattle.cpu_bases.specs.wheel_core.declared.item.Item.{Item}
use Rattle.cpu_bases.specs.wheel_core.PlainBase.{NoneBehind, next_out}
use Rattle.cpu_bases.specs.CpuBases.{CpuBases, base_of, class_in, events_of}
use Rattle.walk_rules.specs.tree_plan.Paths.{group_at_of, is_placed_in}
use Rattle.walk_rules.specs.declared.walk.Walk.{Walk}
use Rattle.walk_rules.specs.declared.walk.WalkKind.TheVariants as kinds
use Rattle.walk_rules.specs.declared.walk.Stage.{Stage}
use Rattle.walk_rules.specs.declared.walk.Stage.TheVariants as stages
use Rattle.walk_rules.specs.Hierarchy.{side}
use Rattle.core_world.specs.declared.step.Step.{Step}
use Rattle.core_world.specs.declared.step.Step.TheVariants as steps
use Rattle.core_world.specs.Steps.{child_here, first_moved, here}
use Rattle.core_world.specs.World.{World, cpu_of, group_of, is_active}

-- the CPU is there, and free: it has no walk
pub record IsFree (w : World) (c : ℕ) : Type 0 where
  pub in_range : c < length w.cpus
  pub free : (cpu_of w c).walk ≡ None

-- no CPU's mark names this CPU
abbrev pub MarksNobody : World → ℕ → Type 0
MarksNobody w c = (d : ℕ) → (cpu_of w d).mark ≡ Some c → ⊥

-- Enter: an online CPU that is free begins its interrupt (run_timer_softirq)
pub record MayEnter (w : World) (c : ℕ) : Type 0 where
  pub is_free : IsFree w c
  pub online : (cpu_of w c).online ≡ true
  pub outside : (cpu_of w c).inside ≡ false

-- Leave: an active CPU ends its interrupt, once it marks nobody
pub record MayLeave (w : World) (c : ℕ) : Type 0 where
  pub is_free : IsFree w c
  pub inside : (cpu_of w c).inside ≡ true
  pub busy : (cpu_of w c).idle ≡ false
  pub marks_nobody : MarksNobody w c

-- Arm: a CPU that is active, or inside its interrupt, queues a timer that is queued nowhere
-- (__mod_timer); the expiry is to come, and nothing is behind the base's clock
pub record MayArm (w : World) (c timer : ℕ) (class : Class) (expires : ℕ) : Type 0 where
  pub is_free : IsFree w c
  pub online : (cpu_of w c).online ≡ true
  pub may_run : (is_active (cpu_of w c) ≡ true) ⊎ ((cpu_of w c).inside ≡ true)
  pub known : timer < w.timers
  pub not_queued : (d : ℕ) → class_in timer (cpu_of w d).bases ≡ None
  pub to_come : w.clock ≤ expires
  pub in_time : expires < 2 ^ 47
  pub none_behind : NoneBehind (base_of class (cpu_of w c).bases)

-- Cancel: a timer that is queued on this CPU goes out (timer_delete)
pub record MayCancel (w : World) (c timer : ℕ) : Type 0 where
  pub is_free : IsFree w c
  pub queued : (class : Class) × (class_in timer (cpu_of w c).bases ≡ Some class)

-- the runner runs its own timers inside its interrupt, and the global ones of a CPU that it has
-- marked
abbrev pub MayRun : World → (c : ℕ) → Class → (runner : ℕ) → Type 0
MayRun w c class runner =
    ((runner ≡ c) × ((cpu_of w c).inside ≡ true)) ⊎
    ((class ≡ Global) × ((cpu_of w c).mark ≡ Some runner))

-- Hand: the item that goes out next of a base is this timer's, and the runner may run it
-- (expire_timers)
pub record MayHand (w : World) (c timer runner : ℕ) : Type 0 where
  pub is_free : IsFree w c
  pub class : Class
  pub item : Item
  pub queued : class_in timer (cpu_of w c).bases ≡ Some class
  pub due : next_out w.clock (base_of class (cpu_of w c).bases) ≡ Some item
  pub timers : item.id ≡ timer
  pub may_run : MayRun w c class runner

-- Ticked: nothing more of a base is due, and the runner may have drained it (__run_timers)
pub record MayTick (w : World) (c : ℕ) (class : Class) (runner : ℕ) : Type 0 where
  pub is_free : IsFree w c
  pub none_due : next_out w.clock (base_of class (cpu_of w c).bases) ≡ None
  pub may_run : MayRun w c class runner

-- Move: the first timer of an offline CPU is this one, and a placed CPU that is active takes it
-- (migrate_timer_list)
pub record MayMove (w : World) (from to timer : ℕ) : Type 0 where
  pub from_free : IsFree w from
  pub from_offline : (cpu_of w from).online ≡ false
  pub to_free : IsFree w to
  pub to_placed : is_placed_in w.tree to ≡ true
  pub to_active : is_active (cpu_of w to) ≡ true
  pub to_outside : (cpu_of w to).inside ≡ false
  pub class : Class
  pub item : Item
  pub first : first_moved (cpu_of w from).bases ≡ Some (class, item)
  pub timers : item.id ≡ timer
  pub none_behind : NoneBehind (base_of class (cpu_of w to).bases)

-- the first event of a CPU, in jiffies, or NEVER (fetch_next_timer_interrupt)
abbrev pub first_event : CpuBases → ℕ
first_event bases = min (events_of bases).pin (events_of bases).first_global

-- Idle: an active CPU outside its interrupt, whose first event is more than a jiffy ahead
-- (timer_base_try_to_set_idle)
pub record MayIdle (w : World) (c : ℕ) : Type 0 where
  pub is_free : IsFree w c
  pub active : is_active (cpu_of w c) ≡ true
  pub outside : (cpu_of w c).inside ≡ false
  pub rests : w.clock + 1 < first_event (cpu_of w c).bases

-- Wake: an online CPU that is idle (timer_clear_idle)
pub record MayWake (w : World) (c : ℕ) : Type 0 where
  pub is_free : IsFree w c
  pub online : (cpu_of w c).online ≡ true
  pub idle : (cpu_of w c).idle ≡ true

-- the CPU is isolated, or another placed CPU is online
abbrev pub MayBeMissed : World → ℕ → Type 0
MayBeMissed w c = (is_placed_in w.tree c ≡ false) ⊎
    ((d : ℕ) × (d ≢ c) × (is_placed_in w.tree d ≡ true) × ((cpu_of w d).online ≡ true))

-- Offline: an active CPU outside its interrupt that may be missed (tmigr_cpu_offline)
pub record MayGoOffline (w : World) (c : ℕ) : Type 0 where
  pub is_free : IsFree w c
  pub active : is_active (cpu_of w c) ≡ true
  pub outside : (cpu_of w c).inside ≡ false
  pub missed : MayBeMissed w c

-- Online: an offline CPU whose last walk is over (tmigr_cpu_online)
pub record MayComeOnline (w : World) (c : ℕ) : Type 0 where
  pub is_free : IsFree w c
  pub offline : (cpu_of w c).online ≡ false

-- Reeval: an idle CPU inside its interrupt that marks nobody carries its next event upwards
-- (tmigr_cpu_new_timer)
pub record MayReeval (w : World) (c : ℕ) : Type 0 where
  pub is_free : IsFree w c
  pub online : (cpu_of w c).online ≡ true
  pub idle : (cpu_of w c).idle ≡ true
  pub inside : (cpu_of w c).inside ≡ true
  pub marks_nobody : MarksNobody w c

-- CPU c has a Reeval walk
pub record IsReevaluating (w : World) (c : ℕ) : Type 0 where
  pub made : Walk
  pub walk : (cpu_of w c).walk ≡ Some made
  pub kind : made.kind ≡ kinds.Reeval

-- the CPU's event in its leaf is there, isn't ignored and isn't past the clock
pub record IsDueAtLeaf (w : World) (c : ℕ) : Type 0 where
  pub leaf : ℕ
  pub event : Event
  pub path : group_at_of w.tree c 0 ≡ Some leaf
  pub there : event_at (group_of w leaf).events (side w.tree c 0) ≡ Some event
  pub counts : Counts event
  pub come : event.expiry ≤ w.clock

-- Take: a placed CPU inside its interrupt marks an idle one, whose event in its leaf is due, to run
-- its timers (tmigr_handle_remote_cpu)
pub record MayTake (w : World) (c by : ℕ) : Type 0 where
  pub by_in_range : by < length w.cpus
  pub by_placed : is_placed_in w.tree by ≡ true
  pub by_inside : (cpu_of w by).inside ≡ true
  pub by_goes_on : IsReevaluating w by → ⊥
  pub is_free : IsFree w c
  pub online : (cpu_of w c).online ≡ true
  pub idle : (cpu_of w c).idle ≡ true
  pub unmarked : (cpu_of w c).mark ≡ None
  pub due : IsDueAtLeaf w c

-- Carry: the next event of a marked CPU that is still idle is carried upwards (the end of
-- tmigr_handle_remote_cpu)
pub record MayCarry (w : World) (c : ℕ) : Type 0 where
  pub is_free : IsFree w c
  pub marked : (by : ℕ) × ((cpu_of w c).mark ≡ Some by)
  pub online : (cpu_of w c).online ≡ true
  pub idle : (cpu_of w c).idle ≡ true

-- Release: a marked CPU that is awake or offline by now loses its mark without a walk
pub record MayRelease (w : World) (c : ℕ) : Type 0 where
  pub is_free : IsFree w c
  pub marked : (by : ℕ) × ((cpu_of w c).mark ≡ Some by)
  pub awake : ((cpu_of w c).online ≡ false) ⊎ ((cpu_of w c).idle ≡ false)

-- a walk's step waits for a lock alone, and never leaves Handing
abbrev pub MayGoOn : World → (c : ℕ) → Walk → Stage → Type 0
MayGoOn w c k stages.LockChild = (group_of w (child_here w c k)).lock ≡ None
MayGoOn w c k stages.LockGroup = (group_of w (here w c k)).lock ≡ None
MayGoOn w c k stages.Handing = ⊥
MayGoOn w c k other = Unit {0}

-- Walk: a CPU's walk makes its next step (walk_groups)
pub record MayWalk (w : World) (c : ℕ) : Type 0 where
  pub in_range : c < length w.cpus
  pub made : Walk
  pub walk : (cpu_of w c).walk ≡ Some made
  pub may_go_on : MayGoOn w c made made.stage

-- HandOn: a CPU that went offline with an event that comes hands its duty on to another placed CPU,
-- which is active by then (tmigr_trigger_active)
pub record MayHandOn (w : World) (c to : ℕ) : Type 0 where
  pub in_range : c < length w.cpus
  pub made : Walk
  pub walk : (cpu_of w c).walk ≡ Some made
  pub handing : made.stage ≡ stages.Handing
  pub to_in_range : to < length w.cpus
  pub another : to ≢ c
  pub to_placed : is_placed_in w.tree to ≡ true
  pub to_active : is_active (cpu_of w to) ≡ true

-- Clock: time goes on, and stays in range
pub record MayTime (w : World) (now : ℕ) : Type 0 where
  pub not_back : w.clock ≤ now
  pub in_time : now < 2 ^ 47 - 2

-- WHERE A STEP IS ENABLED
abbrev pub Enabled : World → Step → Type 0
Enabled w (steps.Clock now) = MayTime w now
Enabled w (steps.Enter cpu) = MayEnter w cpu.0
Enabled w (steps.Leave cpu) = MayLeave w cpu.0
Enabled w (steps.Arm cpu timer class expires job arg line) = MayArm w cpu.0 timer.0 class expires
Enabled w (steps.Cancel cpu timer by line) = MayCancel w cpu.0 timer.0 × (by.0 < length w.cpus)
Enabled w (steps.Hand cpu timer runner) = MayHand w cpu.0 timer.0 runner.0
Enabled w (steps.Ticked cpu class runner) = MayTick w cpu.0 class runner.0
Enabled w (steps.Move from to timer) = MayMove w from.0 to.0 timer.0
Enabled w (steps.Idle cpu) = MayIdle w cpu.0
Enabled w (steps.Wake cpu) = MayWake w cpu.0
Enabled w (steps.Offline cpu) = MayGoOffline w cpu.0
Enabled w (steps.Online cpu) = MayComeOnline w cpu.0
Enabled w (steps.Reeval cpu) = MayReeval w cpu.0
Enabled w (steps.Take cpu by) = MayTake w cpu.0 by.0
Enabled w (steps.Carry cpu) = MayCarry w cpu.0
Enabled w (steps.Release cpu) = MayRelease w cpu.0
Enabled w (steps.Walk cpu) = MayWalk w cpu.0
Enabled w (steps.HandOn cpu to) = MayHandOn w cpu.0 to.0
