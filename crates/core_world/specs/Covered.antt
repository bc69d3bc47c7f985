-- who answers for the timers of an idle CPU, at rest and while walks are under way
use Rattle.std.specs.Prelude.{◌≡◌, ◌⊎◌, ℕ, ◌&&◌, not, true, false}
use Rattle.std.specs.Prelude.{Option, Some, None, if◌then◌else◌}
use Rattle.tm_base.specs.declared.names.Child.{Child}
use Rattle.tm_base.specs.Children.{of_group}
use Rattle.walk_rules.specs.event_queue.declared.event.Event.{Event}
use Rattle.walk_rules.specs.event_queue.EventMap.{event_at}
use Rattle.coverage.specs.Coverage.{Held, Machine, Told, Woken}
use Rattle.walk_rules.specs.tree_plan.Paths.{child_at, group_at_of, is_placed_in}
use Rattle.walk_rules.specs.declared.walk.Walk.{Walk}
use Rattle.walk_rules.specs.Clearing.{clears_at, side_of_exchange}
use Rattle.walk_rules.specs.Edges.{StandsBelow}
use Rattle.walk_rules.specs.Hierarchy.{at_top, side}
use Rattle.walk_rules.specs.Queues.{IsCarried}
use Rattle.walk_rules.specs.Scene.{is_on}
use Rattle.walk_rules.specs.Stages.{is_remote}
use Rattle.walk_rules.specs.Standing.{is_leaving}
use Rattle.core_world.specs.IdleTop.{Answered}
use Rattle.core_world.specs.IdleTop as tops
use Rattle.core_world.specs.Wakeups.{is_undisturbed}
use Rattle.core_world.specs.World.{CpuRecord, World, cpu_of, group_of, is_active, scene_of}

-- the expiry of an event that isn't ignored
abbrev pub live_expiry : Option Event → Option ℕ
live_expiry None = None
live_expiry (Some e) = if e.ignored then None else Some e.expiry

-- the wakeup that a CPU keeps: it is online and idle, outside its interrupt, and no walk of its own
-- is going to set another one
abbrev pub kept_wakeup : CpuRecord → Option ℕ
kept_wakeup y =
    if y.online && (y.idle && (not y.inside && is_undisturbed y.walk)) then Some y.wakeup else None

-- the world as the definitions of coverage know it
abbrev pub machine_of : World → Machine
machine_of w = record {
  path = λ c l. group_at_of w.tree c l;
  bit = λ c l. side w.tree c l;
  child = λ g k. child_at w.tree g k;
  placed = λ c. is_placed_in w.tree c;
  active = λ c. is_active (cpu_of w c);
  migrator = λ g. (group_of w g).migrator;
  event = λ g k. live_expiry (event_at (group_of w g).events k);
  wakeup = λ c. kept_wakeup (cpu_of w c);
}

-- from an active group, from each group to its migrator, one comes to this child
pub data LeadsTo (w : World) (z : Child) : ℕ → Type 0 where
  there : (g k : ℕ) → (group_of w g).migrator ≡ Some k → child_at w.tree g k ≡ Some z →
      LeadsTo w z g
  further : (g k h : ℕ) → (group_of w g).migrator ≡ Some k →
      child_at w.tree g k ≡ Some (of_group h) →
      LeadsTo w z h → LeadsTo w z g

-- the child that a walk which goes away takes out, or has to take out one level higher
abbrev pub takes_out_by : World → ℕ → Option Walk → Option Child
takes_out_by w c None = None
takes_out_by w c (Some k) =
    if is_leaving k.kind
    then clears_at w.tree c k.level false false k.over (side_of_exchange k.stage)
    else None

-- an inactive child is about to be taken out, or to be active again
abbrev pub IsTakenCareOf : World → Child → Type 0
IsTakenCareOf w z = ((d : ℕ) × (takes_out_by w d (cpu_of w d).walk ≡ Some z)) ⊎
    ((x : ℕ) × (z ≡ of_group x) × StandsBelow w.tree (scene_of w) x)

-- what answers for an idle top's event is a walk or an interrupt under way, and not a wakeup that
-- a CPU keeps
abbrev pub IsUnderWay : (w : World) (child time : ℕ) → Answered w child time → Type 0
IsUnderWay w child time (tops.by_activation d k group is kind) = Unit {0}
IsUnderWay w child time (tops.by_wakeup d group keeps soon) = ⊥
IsUnderWay w child time (tops.by_interrupt d group online idle inside goes_on) = Unit {0}
IsUnderWay w child time (tops.by_climbing d k climbs over) = Unit {0}
IsUnderWay w child time (tops.by_reading d k climbs top off yet) = Unit {0}
IsUnderWay w child time (tops.by_first d k climbs soon) = Unit {0}

-- CARRIED: a walk or an interrupt under way answers
pub data Carried (w : World) (c wheel : ℕ) : Type 0 where
  by_walk : (k : Walk) → (cpu_of w c).walk ≡ Some k → is_remote k.kind ≡ false → Carried w c wheel
  by_interrupt : (cpu_of w c).inside ≡ true → Carried w c wheel
  on_the_way : (level x : ℕ) → Told (machine_of w) c wheel level →
      group_at_of w.tree c level ≡ Some x → (group_of w x).migrator ≡ None →
      at_top w.tree c level ≡ false →
      StandsBelow w.tree (scene_of w) x ⊎ IsCarried w.tree (scene_of w) x → Carried w c wheel
  by_role : (level g : ℕ) (z : Child) → Told (machine_of w) c wheel level →
      group_at_of w.tree c level ≡ Some g → LeadsTo w z g → is_on (scene_of w) z ≡ false →
      IsTakenCareOf w z → Carried w c wheel
  at_idle_top : (level top : ℕ) (e : Event) → Told (machine_of w) c wheel level →
      group_at_of w.tree c level ≡ Some top → at_top w.tree c level ≡ true →
      (group_of w top).migrator ≡ None →
      event_at (group_of w top).events (side w.tree c level) ≡ Some e →
      (by : Answered w (side w.tree c level) e.expiry) →
      IsUnderWay w (side w.tree c level) e.expiry by → Carried w c wheel

-- COVERED
abbrev pub Covered : World → (c wheel : ℕ) → Type 0
Covered w c wheel = Held (machine_of w) c wheel ⊎ (Woken (machine_of w) c wheel ⊎ Carried w c wheel)

-- SETTLED: no CPU has a walk or is inside its interrupt
pub record IsSettled (w : World) : Type 0 where
  pub free : (c : ℕ) → (cpu_of w c).walk ≡ None
  pub outside : (c : ℕ) → (cpu_of w c).inside ≡ false
