-- timer bases as plain data: a list of items and a clock, how they are forwarded, added to and
-- handed out
use Rattle.std.specs.Prelude.{◌≡◌, ℕ, ◌+◌, ◌^◌, ◌<◌, ◌≤◌, ◌==◌, nat_lt, nat_le, min, max}
use Rattle.std.specs.Prelude.{List, [], ◌∷◌, ◌++◌, length, All, find, filter}
use Rattle.std.specs.Prelude.{Option, Some, None, MatchOption, unwrap_or, if◌then◌else◌}
use Rattle.std.specs.Option.{ForSome}
use Rattle.wheel_core.specs.WheelExpiry.{wheel_expiry_of, wheel_level_of}
use Rattle.wheel_core.specs.declared.item.Item.{Item}

-- the queued items in arming order, and the clock
pub record PlainBase : Type 0 where
  pub items : List Item
  pub clock : ℕ

-- a base as its callers see it: the plain base, and how many items there is memory for
pub record RoomyBase : Type 0 where
  pub plain : PlainBase
  pub capacity : ℕ

-- the base after its plain base was changed; there is memory for as many items as before
abbrev pub on_plain : (PlainBase → PlainBase) → RoomyBase → RoomyBase
on_plain change base = record base { plain = change base.plain }

-- the base after memory was taken for so many more items than are queued, where there was less
abbrev pub reserved : (more : ℕ) → RoomyBase → RoomyBase
reserved more base = record base { capacity = max base.capacity (length base.plain.items + more) }

-- nothing queued, at the start of time
abbrev pub empty_base : PlainBase
empty_base = record { items = []; clock = 0 }

-- the sooner of an expiry and another one that may be there
abbrev pub sooner : ℕ → Option ℕ → ℕ
sooner wheel None = wheel
sooner wheel (Some other) = min wheel other

-- the least wheel expiry, none where nothing is queued
abbrev pub least : List Item → Option ℕ
least [] = None
least (item ∷ items) = Some (sooner item.wheel (least items))

-- no item has a wheel expiry before this
abbrev pub NoneSooner : (wheel : ℕ) → List Item → Type 0
NoneSooner wheel items = All (λ item. wheel ≤ item.wheel) items

-- no queued wheel expiry is below the clock
abbrev pub NoneBehind : PlainBase → Type 0
NoneBehind base = ForSome (least base.items) (λ wheel. base.clock ≤ wheel)

-- FORWARDING (forward_timer_base): where the clock is behind now, it becomes the least wheel
-- expiry if that isn't past now, and now otherwise
abbrev pub clock_forwarded : (now clock : ℕ) → Option ℕ → ℕ
clock_forwarded now clock None = if nat_lt clock now then now else clock
clock_forwarded now clock (Some wheel) =
    if nat_lt clock now then (if nat_le wheel now then wheel else now) else clock

-- FORWARDING: the base with that clock (forward_timer_base)
abbrev pub forwarded : (now : ℕ) → PlainBase → PlainBase
forwarded now base = record base { clock = clock_forwarded now base.clock (least base.items) }

-- ADDING (internal_add_timer): the item that a timer becomes in a base of this clock goes to the
-- end of the list
abbrev pub item_added : (clock id expires job arg : ℕ) → Item
item_added clock id expires job arg = record {
  id = id;
  expires = expires;
  wheel = wheel_expiry_of expires clock;
  level = wheel_level_of expires clock;
  job = job;
  arg = arg;
}

-- ADDING: the base with the item at the end of the list (internal_add_timer)
abbrev pub added : (id expires job arg : ℕ) → PlainBase → PlainBase
added id expires job arg base =
    record base { items = base.items ++ item_added base.clock id expires job arg ∷ [] }

-- the queued item of an id
abbrev pub item_of : (id : ℕ) → List Item → Option Item
item_of id items = find (λ item. item.id == id) items

-- the items without that of an id
abbrev pub without : (id : ℕ) → List Item → List Item
without id [] = []
without id (item ∷ items) = if item.id == id then items else item ∷ without id items

-- REMOVING: the base without the item of an id (timer_delete)
abbrev pub removed : (id : ℕ) → PlainBase → PlainBase
removed id base = record base { items = without id base.items }

-- the highest level in a list of items
abbrev pub highest : List Item → ℕ
highest [] = 0
highest (item ∷ items) = max item.level (highest items)

-- the last item of a list
abbrev pub last_armed : List Item → Option Item
last_armed [] = None
last_armed (item ∷ items) = Some (unwrap_or (last_armed items) item)

-- of the items of the highest level the last armed
abbrev pub last_of_highest : List Item → Option Item
last_of_highest items = last_armed (filter (λ item. item.level == highest items) items)

-- what goes out first of the items of a wheel expiry
unfoldable pub first_out : (wheel : ℕ) → List Item → Option Item
first_out wheel items = last_of_highest (filter (λ item. item.wheel == wheel) items)

-- HAND-OUT (__run_timers, with collect_expired_timers and expire_timers): what goes out next at a
-- time, from the items of the least wheel expiry where that isn't past now
abbrev pub out_at : (now : ℕ) → Option ℕ → List Item → Option Item
out_at now None items = None
out_at now (Some wheel) items = if nat_le wheel now then first_out wheel items else None

-- HAND-OUT: what goes out next of a base at a time
abbrev pub next_out : (now : ℕ) → PlainBase → Option Item
next_out now base = out_at now (least base.items) base.items

-- the base after an item went out; the clock is then past its wheel expiry (__run_timers)
abbrev pub after_out : PlainBase → Option Item → PlainBase
after_out base None = base
after_out base (Some item) =
    record { items = without item.id base.items; clock = max base.clock (item.wheel + 1) }

-- HAND-OUT: the base after what goes out next; as it was where nothing does (__run_timers)
abbrev pub taken : (now : ℕ) → PlainBase → PlainBase
taken now base = after_out base (next_out now base)

-- the id of the first item in arming order
abbrev pub oldest_of : List Item → Option ℕ
oldest_of [] = None
oldest_of (item ∷ items) = Some item.id

-- the item is that of its id, it is due, and none goes out at an earlier expiry or at the same
-- one from a higher level
pub record IsDue (now : ℕ) (items : List Item) (item : Item) : Type 0 where
  pub queued : item_of item.id items ≡ Some item
  pub due : item.wheel ≤ now
  pub soonest : NoneSooner item.wheel items
  pub highest : All (λ other. other.wheel ≡ item.wheel → other.level ≤ item.level) items

-- nothing is due
abbrev pub NoneDue : (now : ℕ) → List Item → Type 0
NoneDue now items = All (λ item. now < item.wheel) items

-- no two items have one id
abbrev pub HasDistinctIds : List Item → Type 0
HasDistinctIds [] = Unit {0}
HasDistinctIds (item ∷ items) = (item_of item.id items ≡ None) × HasDistinctIds items

-- an item's numbers are in the ranges of the wheel
pub record FitsWheel (item : Item) : Type 0 where
  pub expires : item.expires < 2 ^ 47
  pub wheel : item.wheel ≤ 2 ^ 47
  pub level : item.level < 9

-- what every base keeps of its items
pub record IsSound (items : List Item) : Type 0 where
  pub distinct : HasDistinctIds items
  pub in_wheel : All FitsWheel items

-- the item that goes out is due, and none goes out only where none is due
abbrev pub OutIsDue : (now : ℕ) → List Item → Option Item → Type 0
OutIsDue now items out = MatchOption out (NoneDue now items) (IsDue now items)

-- one item went
abbrev pub OneFewer : (old new : PlainBase) → Type 0
OneFewer old new = length new.items + 1 ≡ length old.items
