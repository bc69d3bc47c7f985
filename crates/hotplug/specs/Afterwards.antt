-- what a caller finds after hotplug, in words: who is online, and where each timer is
use Rattle.std.specs.Prelude.{◌≡◌, ◌≢◌, ℕ, List, [], ◌++◌, Option, Some, None, IfSome, false, true}
use Rattle.std.specs.Prelude.{map}
use Rattle.tm_base.specs.declared.names.Class.{Class}
use Rattle.tm_base.specs.declared.names.CpuId.{CpuId}
use Rattle.wheel_core.specs.declared.item.Item.{Item}
use Rattle.cpu_bases.specs.ByClass.{ByClass, of_class}
use Rattle.cpu_bases.specs.CpuBases.{base_of, oldest_in}
use Rattle.core_world.specs.World.{World, cpu_of, is_active}
use Rattle.hotplug.specs.Settled.{heir_of}

-- a number as the id of a CPU
abbrev cpu_id : ℕ → CpuId
cpu_id c = record { 0 = c }

-- OFFLINE: CPU c is offline; each CPU has the timers and the journal that it had; of the others
-- none went offline or came online, and all but the heir are as they were. The heir is CPU `to`,
-- and it is active
pub record HasGoneOffline (old : World) (c : ℕ) (to : CpuId) (heir : Option CpuId) (new : World)
    : Type 0 where
  pub tree : new.tree ≡ old.tree
  pub clock : new.clock ≡ old.clock
  pub offline : (cpu_of new c).online ≡ false
  pub bases : (d : ℕ) → (cpu_of new d).bases ≡ (cpu_of old d).bases
  pub online : (d : ℕ) → d ≢ c → (cpu_of new d).online ≡ (cpu_of old d).online
  pub others : (d : ℕ) → d ≢ c → heir ≢ Some (cpu_id d) → cpu_of new d ≡ cpu_of old d
  pub duty : IfSome heir (λ who. who ≡ to)
  pub active : IfSome heir (λ who. is_active (cpu_of new who.0) ≡ true)

-- ONLINE: CPU c is online and active; each CPU has the timers and the journal that it had, and the
-- others are as they were
pub record HasComeOnline (old : World) (c : ℕ) (new : World) : Type 0 where
  pub tree : new.tree ≡ old.tree
  pub clock : new.clock ≡ old.clock
  pub active : is_active (cpu_of new c) ≡ true
  pub bases : (d : ℕ) → (cpu_of new d).bases ≡ (cpu_of old d).bases
  pub others : (d : ℕ) → d ≢ c → cpu_of new d ≡ cpu_of old d

-- TIMERS: what was asked for a queued timer: its number, the expiry in jiffies, the job and what
-- the job is handed
pub record Asked : Type 0 where
  pub timer : ℕ
  pub expires : ℕ
  pub job : ℕ
  pub arg : ℕ

-- what was asked for a queued item
abbrev pub asked : Item → Asked
asked item = record {
  timer = item.id;
  expires = item.expires;
  job = item.job;
  arg = item.arg;
}

-- the items queued in the base of a class of CPU c, in arming order
abbrev pub base_items_of : World → (c : ℕ) → Class → List Item
base_items_of w c class = (base_of class (cpu_of w c).bases).items

-- the timers of a class that are queued on CPU c, in arming order, as they were asked for
abbrev pub timers_of : World → (c : ℕ) → Class → List Asked
timers_of w c class = map asked (base_items_of w c class)

-- these timers of each class went from the head of CPU `from` to the end of the base of the same
-- class of CPU `to`, in arming order and as they were asked for; nothing else moved, and no other
-- CPU changed
pub record HaveMoved (old : World) (from to : ℕ) (gone : ByClass (List Item)) (new : World)
    : Type 0 where
  pub tree : new.tree ≡ old.tree
  pub clock : new.clock ≡ old.clock
  pub online : (d : ℕ) → (cpu_of new d).online ≡ (cpu_of old d).online
  pub left : (class : Class) → base_items_of old from class
      ≡ of_class class gone ++ base_items_of new from class
  pub come : (class : Class) → timers_of new to class
      ≡ timers_of old to class ++ map asked (of_class class gone)
  pub others : (d : ℕ) → d ≢ from → d ≢ to → cpu_of new d ≡ cpu_of old d

-- some timers have moved so
abbrev pub SomeMoved : World → (from to : ℕ) → World → Type 0
SomeMoved old from to new = (gone : ByClass (List Item)) × HaveMoved old from to gone new

-- a timer is still queued on CPU c
pub record StillQueued (w : World) (c : ℕ) : Type 0 where
  pub class : Class
  pub item : Item
  pub first : oldest_in (base_items_of w c class) ≡ Some item

-- A DEAD CPU's timers are all with CPU `to`, which is active: each in the base of its class,
-- behind those that were there, in arming order and as it was asked for. No other CPU changed
pub record AllWith (old : World) (dead to : ℕ) (new : World) : Type 0 where
  pub tree : new.tree ≡ old.tree
  pub clock : new.clock ≡ old.clock
  pub online : (d : ℕ) → (cpu_of new d).online ≡ (cpu_of old d).online
  pub none_left : (class : Class) → base_items_of new dead class ≡ []
  pub come : (class : Class) → timers_of new to class
      ≡ timers_of old to class ++ timers_of old dead class
  pub active : is_active (cpu_of new to) ≡ true
  pub others : (d : ℕ) → d ≢ dead → d ≢ to → cpu_of new d ≡ cpu_of old d

-- nothing was queued on a dead CPU, and all is as it was
pub record NothingMoved (old : World) (dead : ℕ) (new : World) : Type 0 where
  pub empty : (class : Class) → base_items_of old dead class ≡ []
  pub same : new ≡ old

-- A DEAD CPU's timers are all with its heir; where it has none, it had no timers
abbrev pub AllMoved : (old : World) → (dead : ℕ) → (heir : Option CpuId) → (new : World) → Type 0
AllMoved old dead None new = NothingMoved old dead new
AllMoved old dead (Some to) new = AllWith old dead to.0 new

-- AFTER WANT OF MEMORY: the first of a dead CPU's timers are with its heir, and those that are
-- left, at least one, are still on the dead CPU
pub record PartMoved (old : World) (dead : ℕ) (new : World) : Type 0 where
  pub to : CpuId
  pub heir : heir_of old dead ≡ Some to
  pub moved : SomeMoved old dead to.0 new
  pub some_left : StillQueued new dead
