-- a queue of timers as its callers see it: a map from keys to asked ticks and values, under a clock
use Rattle.std.specs.Prelude.{◌≡◌, ◌≢◌, ◌⊎◌, ℕ, ◌+◌, ◌-◌, ◌*◌, ◌/◌, ◌^◌, ◌<◌, ◌≤◌, ◌==◌, max}
use Rattle.std.specs.Prelude.{List, Option, Some, None, if◌then◌else◌, option_map, is_some}
use Rattle.std.specs.Prelude.{count_by, false, nat_le, slice_index_or}
use Rattle.timer_queue.specs.declared.error.QueueError.{QueueError}
use Rattle.timer_queue.specs.declared.error.QueueError.TheVariants.{NoMemory, PastReach, KeysSpent}
use Rattle.timer_queue.specs.declared.error.QueueError.TheVariants.{NoTimer}
use Rattle.timer_queue.specs.declared.key.Key.{Key}
use Rattle.timer_queue.specs.declared.timer.Timer.{Timer}
use Rattle.timer_queue.specs.declared.timer.TheConstants.{EXACT_TICKS, LAST_TICK}

-- the timers in their slots, the clock in ticks, how many keys were given out, and how many timers
-- there is memory for
pub record Queue (T : Type 0) : Type 0 where
  pub slots : List (Option (Timer T))
  pub clock : ℕ
  pub issued : ℕ
  pub room : ℕ

-- what a key stands for: the asked tick, the latest one at which the timer goes out, and the value
pub record Asked (T : Type 0) : Type 0 where
  pub expires : ℕ
  pub latest : ℕ
  pub value : T

-- how late a timer is at most that asks for so many ticks past the clock: by nothing where they are
-- few, and else by 8 in 63 of the way
unfoldable pub late_by : (ticks : ℕ) → ℕ
late_by ticks = if nat_le ticks EXACT_TICKS then 0 else 8 * ticks / 63

-- the latest tick at which a timer goes out that was put in at a clock; one for the past goes out
-- at the clock
abbrev pub latest : (armed expires : ℕ) → ℕ
latest armed expires = max armed expires + late_by (expires - armed)

module _ {T : Type 0} where
  -- what a timer stands for that is put in at a clock
  abbrev pub asked_of : (clock expires : ℕ) → T → Asked T
  asked_of clock expires value =
      record { expires = expires; latest = latest clock expires; value = value }

  -- what a timer in its slot stands for
  abbrev pub asked : Timer T → Asked T
  asked timer = asked_of timer.armed timer.expires timer.value

  -- the timer in a slot, if it is the one of this number
  abbrev pub numbered : ℕ → Option (Timer T) → Option (Timer T)
  numbered number None = None
  numbered number (Some timer) = if timer.number == number then Some timer else None

  -- the timer of a key
  abbrev pub timer_of : Queue T → Key → Option (Timer T)
  timer_of queue key = numbered key.number (slice_index_or queue.slots key.slot None)

  -- THE MAP: what a key stands for, nothing where it names no timer
  abbrev pub entry : Queue T → Key → Option (Asked T)
  entry queue key = option_map asked (timer_of queue key)

  -- the value of what a key stands for
  abbrev pub value_of : Option (Asked T) → Option T
  value_of entry = option_map (λ (a : Asked T). a.value) entry

  -- how many timers there are
  abbrev pub count : Queue T → ℕ
  count queue = count_by is_some queue.slots

  -- the key stands for this tick and value
  abbrev pub IsEntry : Queue T → Key → (expires : ℕ) → T → Type 0
  IsEntry queue key expires value =
      (latest : ℕ)
      × (entry queue key ≡ Some (record { expires = expires; latest = latest; value = value }))

  -- each key but one stands for what it stood for
  abbrev pub KeptBut : Key → (old new : Queue T) → Type 0
  KeptBut key old new = (other : Key) → other ≢ key → entry new other ≡ entry old other

  -- each key that was given out before stands for what it stood for
  abbrev pub KeptIssued : (old new : Queue T) → Type 0
  KeptIssued old new =
      (key : Key) → key.number < old.issued → entry new key ≡ entry old key

  -- a timer may ask for this tick now
  pub record CanReset (expires : ℕ) (queue : Queue T) : Type 0 where
    pub expires_in_reach : expires ≤ LAST_TICK
    pub clock_in_reach : queue.clock ≤ LAST_TICK

  -- a timer can be put in: the times are in reach, there is memory, and a key
  pub record CanInsert (expires : ℕ) (queue : Queue T) : Type 0 where
    pub in_reach : CanReset expires queue
    pub room : count queue < queue.room
    pub keys : queue.issued < 2 ^ 64 - 1

  -- this error is given for this reason
  abbrev pub IsReason : QueueError → (expires : ℕ) → Queue T → Type 0
  IsReason NoMemory expires queue = queue.room ≤ count queue
  IsReason PastReach expires queue = (LAST_TICK < expires) ⊎ (LAST_TICK < queue.clock)
  IsReason KeysSpent expires queue = queue.issued ≡ 2 ^ 64 - 1
  IsReason NoTimer expires queue = ⊥

  -- a reset is refused with this error for this reason
  abbrev pub IsResetReason : QueueError → Key → (expires : ℕ) → Queue T → Type 0
  IsResetReason NoMemory key expires queue = ⊥
  IsResetReason PastReach key expires queue = (LAST_TICK < expires) ⊎ (LAST_TICK < queue.clock)
  IsResetReason KeysSpent key expires queue = ⊥
  IsResetReason NoTimer key expires queue = is_some (entry queue key) ≡ false

  -- no timer is past its latest tick at this one
  abbrev pub NoneLate : (now : ℕ) → Queue T → Type 0
  NoneLate now queue =
      (key : Key) (a : Asked T) → entry queue key ≡ Some a → now < a.latest

  -- no timer's moment has come
  abbrev pub NoneDue : (now : ℕ) → Queue T → Type 0
  NoneDue now queue =
      (key : Key) (timer : Timer T) → timer_of queue key ≡ Some timer → now < timer.moment

  -- the latest tick of no timer is before this one
  abbrev pub NoneSooner : (expires : ℕ) → Queue T → Type 0
  NoneSooner expires queue =
      (key : Key) (a : Asked T) → entry queue key ≡ Some a → expires ≤ a.latest

  -- the latest tick of no timer is before this moment
  abbrev pub NotAfter : Queue T → (moment : ℕ) → Type 0
  NotAfter queue moment = NoneSooner moment queue

  -- a timer has this moment, and none an earlier one
  pub record HasMoment (queue : Queue T) (moment : ℕ) : Type 0 where
    pub key : Key
    pub timer : Timer T
    pub there : timer_of queue key ≡ Some timer
    pub is : timer.moment ≡ moment
    pub least : (other : Key) (later : Timer T) → timer_of queue other ≡ Some later
        → moment ≤ later.moment

  -- a timer of a lawful queue: its key was given out, its times are in reach, and its moment is no
  -- later than was promised
  pub record IsLawfulTimer (clock issued : ℕ) (timer : Timer T) : Type 0 where
    pub number : timer.number < issued
    pub expires : timer.expires ≤ LAST_TICK
    pub armed : timer.armed ≤ clock
    pub promised : timer.moment ≤ latest timer.armed timer.expires
    pub not_past : clock ≤ timer.moment

  -- what every queue keeps
  abbrev pub IsLawful : Queue T → Type 0
  IsLawful queue = (key : Key) (timer : Timer T) → timer_of queue key ≡ Some timer
      → IsLawfulTimer queue.clock queue.issued timer
