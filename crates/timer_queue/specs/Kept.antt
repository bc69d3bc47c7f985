-- a queue by its fields, and what they keep: cited by no public clause
use Rattle.std.specs.Prelude.{◌≡◌, ℕ, ◌+◌, ◌-◌, ◌^◌, ◌<◌, ◌≤◌, ◌⊎◌, nat_le, Option, Some}
use Rattle.std.specs.Prelude.{None, length, if◌then◌else◌}
use Rattle.slab.specs.Slab.{Slab, get, slab_len}
use Rattle.wheel_core.specs.declared.item.Item.{Item}
use Rattle.wheel_core.specs.PlainBase.{IsSound, NoneBehind, RoomyBase, item_of}
use Rattle.wheel_core.specs.WheelExpiry.{wheel_expiry_of}
use Rattle.timer_queue.specs.declared.timer.Timer.{Timer}
use Rattle.timer_queue.specs.declared.timer.TheConstants.{LAST_TICK, MOST_TIMERS}
use Rattle.timer_queue.specs.Queues.{Queue, latest}

-- how many timers there is memory for; a slot's number has 32 bits
abbrev pub room_of : (wheel slots : ℕ) → ℕ
room_of wheel slots = if nat_le slots MOST_TIMERS then wheel else 0

module _ {T : Type 0} where
  -- a timer as the wheel of a clock takes it
  abbrev pub filed : (clock : ℕ) → Timer T → Timer T
  filed clock timer = record timer { moment = wheel_expiry_of timer.expires clock - 1 }

  -- the number of the next slot has 32 bits
  abbrev pub HasSlot : Slab (Timer T) → Type 0
  HasSlot timers = (timers.capacity ≤ MOST_TIMERS) ⊎ (timers.vacant_key < MOST_TIMERS)

  -- what callers see: the wheel's clock is a tick ahead of the queue's
  abbrev pub queue_of : RoomyBase → Slab (Timer T) → (issued : ℕ) → Queue T
  queue_of wheel timers issued = record {
    slots = timers.slots;
    clock = wheel.plain.clock - 1;
    issued = issued;
    room = room_of wheel.capacity timers.capacity;
  }

  -- the wheel's item and the slot's timer say the same
  pub record IsTied (item : Item) (timer : Timer T) : Type 0 where
    pub expires : item.expires ≡ timer.expires
    pub wheel : item.wheel ≡ timer.moment + 1

  -- a slot has a timer exactly where the wheel has an item of its number
  abbrev pub AreTied : Option Item → Option (Timer T) → Type 0
  AreTied None None = Unit {0}
  AreTied None (Some timer) = ⊥
  AreTied (Some item) None = ⊥
  AreTied (Some item) (Some timer) = IsTied item timer

  -- what the fields keep of a timer
  pub record KeepsTimer (clock issued : ℕ) (timer : Timer T) : Type 0 where
    pub number : timer.number < issued
    pub expires : timer.expires ≤ LAST_TICK
    pub armed : timer.armed < clock
    pub promised : timer.moment ≤ latest timer.armed timer.expires

  -- what the fields of a queue keep
  pub record KeepsQueue (wheel : RoomyBase) (timers : Slab (Timer T)) (issued : ℕ) : Type 0 where
    pub tied : (slot : ℕ) → AreTied (item_of slot wheel.plain.items) (get timers slot)
    pub each : (slot : ℕ) (timer : Timer T) → get timers slot ≡ Some timer
        → KeepsTimer wheel.plain.clock issued timer
    pub counted : slab_len timers ≡ length wheel.plain.items
    pub few : length wheel.plain.items ≤ wheel.capacity
    pub fits : wheel.capacity ≤ timers.capacity
    pub sound : IsSound wheel.plain.items
    pub behind : NoneBehind wheel.plain
    pub started : 1 ≤ wheel.plain.clock
    pub in_time : wheel.plain.clock ≤ 2 ^ 47 + 1
