-- the ranges of the numbers in a world: times have 48 bits, and CPUs, groups and timers are those
-- that there are
use Rattle.std.specs.Prelude.{◌≡◌, ℕ, ◌^◌, ◌<◌, ◌≤◌, ◌-◌, Some, All, length}
use Rattle.tm_base.specs.declared.names.TheConstants.{TIME_LIMIT}
use Rattle.tm_base.specs.declared.names.Class.{Class}
use Rattle.event_queue.specs.declared.event.Event.{Event}
use Rattle.event_queue.specs.EventMap.{event_at}
use Rattle.wheel_core.specs.declared.item.Item.{Item}
use Rattle.cpu_bases.specs.CpuBases.{base_of}
use Rattle.walk_rules.specs.declared.walk.Walk.{Walk}
use Rattle.walk_rules.specs.Scene.{Group}
use Rattle.core_world.specs.Lawful.{IsLawful}
use Rattle.core_world.specs.World.{CpuRecord, World, cpu_of, group_of}

-- an event that is kept comes, and is that of a CPU
pub record EventInRange (w : World) (e : Event) : Type 0 where
  pub expiry : e.expiry ≤ TIME_LIMIT
  pub cpu : e.cpu.0 < length w.cpus

-- the times of a walk have 48 bits, and the CPU of its best event is there
pub record WalkInRange (w : World) (k : Walk) : Type 0 where
  pub pin : k.pin < 2 ^ 48
  pub next : k.next < 2 ^ 48
  pub first : k.first < 2 ^ 48
  -- above its leaf a walk may have read an event of the child
  pub best : (e : Event) → k.best ≡ Some e → e.expiry ≤ TIME_LIMIT
  pub best_cpu : (e : Event) → k.best ≡ Some e → 0 < k.level → e.cpu.0 < length w.cpus

-- a queued timer is one of the machine, and its times have 48 bits
pub record ItemInRange (w : World) (item : Item) : Type 0 where
  pub timer : item.id < w.timers
  pub expires : item.expires < TIME_LIMIT
  pub wheel : item.wheel ≤ TIME_LIMIT

-- a CPU's times have 48 bits; its marker, its walk and its timers are in range
pub record CpuInRange (w : World) (y : CpuRecord) : Type 0 where
  pub wakeup : y.wakeup < 2 ^ 48
  pub mark : (b : ℕ) → y.mark ≡ Some b → b < length w.cpus
  pub walk : (k : Walk) → y.walk ≡ Some k → WalkInRange w k
  pub clock : (class : Class) → (base_of class y.bases).clock < TIME_LIMIT
  pub timers : (class : Class) → All (ItemInRange w) (base_of class y.bases).items

-- a group's children are eight; the CPU that has its lock, and its events, are in range
pub record GroupInRange (w : World) (x : Group) : Type 0 where
  pub active : x.active < 2 ^ 8
  pub migrator : (k : ℕ) → x.migrator ≡ Some k → k < 8
  pub lock : (c : ℕ) → x.lock ≡ Some c → c < length w.cpus
  pub event : (k : ℕ) (e : Event) → event_at x.events k ≡ Some e → EventInRange w e

-- the clock, all CPUs and all groups are in range
pub record InRange (w : World) : Type 0 where
  pub clock : w.clock < TIME_LIMIT - 2
  pub cpu : (c : ℕ) → CpuInRange w (cpu_of w c)
  pub group : (g : ℕ) → GroupInRange w (group_of w g)

-- every lawful world is in range
abbrev pub EachInRange : Type 0
EachInRange = (w : World) → IsLawful w → InRange w
