-- a queue that is new, that gets room, and whose timers come and go by their keys
use Rattle.std.proofs.Common.{◌≡◌, ℕ, ◌+◌, ◌-◌, ◌^◌, ◌<◌, ◌≤◌, max, leb}
use Rattle.std.proofs.Common.{List, [], ◌∷◌, Option, Some, None, length, refl, ap, ◌∙◌, sym, subst}
use Rattle.std.proofs.Common.{inl, inr, arith}
use Rattle.std.specs.Prelude.{◌==◌, count_by, is_some, option_map, slice_index_or}
use Rattle.std.specs.List.{Contains}
use Rattle.std.proofs.lemmas.Bool.{cases_Bool, cond-true, cond-false, eq-eqb, eqb-false, eqb-true}
use Rattle.std.proofs.lemmas.Bool.{leb-true}
use Rattle.std.proofs.lemmas.List.Elements.{All-nil, Contains-append_left, Contains-append_right, Contains-push}
use Rattle.std.proofs.lemmas.Option.{none-some, same_Some}
use Rattle.slab.specs.Slab.{Slab, Updates, get, slab_len}
use Rattle.wheel_core.specs.declared.item.Item.{Item}
use Rattle.wheel_core.specs.PlainBase.{FitsWheel, IsSound, NoneBehind, RoomyBase}
use Rattle.wheel_core.specs.PlainBase.{item_of, least, oldest_of, on_plain, removed, reserved, without}
use Rattle.wheel_core.proofs.Ids.{item_queued, length-without}
use Rattle.wheel_core.proofs.Leasts.{least_below, least_later, least_none}
use Rattle.timer_queue.specs.declared.key.Key.{Key}
use Rattle.timer_queue.specs.declared.timer.Timer.{Timer}
use Rattle.timer_queue.specs.declared.timer.TheConstants.{MOST_TIMERS}
use Rattle.timer_queue.specs.Queues.{HasMoment, asked, numbered}
use Rattle.timer_queue.specs.Kept.{AreTied, KeepsQueue, queue_of, room_of}
use Rattle.timer_queue.proofs.Slots.{at_key, numbered_is, numbered_same}
use Rattle.timer_queue.proofs.Keeps.{filed_item, held_timer, keeps_moved, keeps_removed, moment_from}

-- the oldest item, and that there is none
pub oldest_there : (items : List Item) (id : ℕ) → Some id ≡ oldest_of items
    → (item : Item) × (item_of id items ≡ Some item)
oldest_there [] id is = absurd (none-some id (sym is))
oldest_there (first ∷ items) id is =
    let same = same_Some id first.id is in
    (first, cond-true (first.id == id) (Some first) (item_of id items) (eq-eqb first.id id (sym same)))

pub oldest_none : (items : List Item) → None ≡ oldest_of items → items ≡ []
oldest_none [] is = refl
oldest_none (first ∷ items) is = absurd (none-some first.id is)

-- an item has the least wheel expiry
record LeastItem (items : List Item) (wheel : ℕ) : Type 0 where
  item : Item
  queued : Contains items item
  wheel_is : item.wheel ≡ wheel

least_item : (items : List Item) (wheel : ℕ) → least items ≡ Some wheel → LeastItem items wheel
least_item [] wheel is = absurd (none-some wheel is)
least_item (first ∷ items) wheel is =
    elim (cases_Bool (first.wheel == wheel)) [
      | inl here ↦ record {
        item = first;
        queued = Contains-append_left (first ∷ []) items first (Contains-push [] first);
        wheel_is = eqb-true first.wheel wheel here;
      }
      | inr other ↦
          let later = least_item items wheel
          (least_later first items wheel (least items) is (eqb-false first.wheel wheel other)) in
          record {
            item = later.item;
            queued = Contains-append_right (first ∷ []) items later.item later.queued;
            wheel_is = later.wheel_is;
          }
    ]

module _ {T : Type 0} where
  -- AN EMPTY QUEUE
  no_slot : (timers : Slab (Timer T)) → timers.slots ≡ [] → (slot : ℕ) → get timers slot ≡ None
  no_slot timers empty slot = ap (λ slots. slice_index_or slots slot None) empty

  pub no_key : (timers : Slab (Timer T)) → timers.slots ≡ [] → (key : Key)
      → at_key timers key ≡ None
  no_key timers empty key = ap (λ slot. option_map asked (numbered key.number slot)) (no_slot timers empty key.slot)

  tie_none : (a : Option Item) (b : Option (Timer T)) → a ≡ None → b ≡ None → AreTied a b
  tie_none a b a_is b_is =
      subst (λ item. AreTied item b) (sym a_is) (subst (AreTied None) (sym b_is) tt)

  pub keeps_empty : (wheel : RoomyBase) (timers : Slab (Timer T)) (issued : ℕ)
      → wheel.plain.items ≡ [] → timers.slots ≡ [] → wheel.capacity ≤ timers.capacity
      → 1 ≤ wheel.plain.clock → wheel.plain.clock ≤ 2 ^ 47 + 1 → KeepsQueue wheel timers issued
  keeps_empty wheel timers issued items_is slots_is fits started in_time =
      let long = ap (length {A = Item}) items_is in
      record {
        tied = λ s. tie_none (item_of s wheel.plain.items) (get timers s) (ap (item_of s) items_is) (no_slot timers slots_is s);
        each = λ s timer is. absurd (none-some timer (sym (no_slot timers slots_is s) ∙ is));
        counted = ap (count_by is_some) slots_is ∙ sym long;
        few = omega (arith, long);
        fits = fits;
        sound = subst IsSound (sym items_is) (record { distinct = tt; in_wheel = All-nil FitsWheel });
        behind = λ w is. absurd (none-some w (sym (ap least items_is) ∙ is));
        started = started;
        in_time = in_time;
      }

  -- ROOM
  pub record Roomy (wheel : RoomyBase) (timers : Slab (Timer T)) (more : ℕ) : Type 0 where
    pub wheel_room : length wheel.plain.items + more ≤ wheel.capacity
    pub slots : timers.capacity ≤ MOST_TIMERS
    pub room : slab_len timers + more ≤ timers.capacity

  pub roomy : (wheel : RoomyBase) (timers : Slab (Timer T)) (issued more : ℕ)
      → KeepsQueue wheel timers issued → 0 < more
      → slab_len timers + more ≤ room_of wheel.capacity timers.capacity → Roomy wheel timers more
  roomy wheel timers issued more keeps some low =
      let counted = keeps.counted in
      let fits = keeps.fits in
      elim (cases_Bool (leb timers.capacity MOST_TIMERS)) [
        | inl here ↦
            let is = cond-true (leb timers.capacity MOST_TIMERS) wheel.capacity 0 here in
            record {
              wheel_room = omega (arith, low, is, counted);
              slots = leb-true timers.capacity MOST_TIMERS here;
              room = omega (arith, low, is, fits);
            }
        | inr past ↦
            let is = cond-false (leb timers.capacity MOST_TIMERS) wheel.capacity 0 past in
            absurd (omega (arith, low, is, some))
      ]

  -- more room
  pub keeps_roomier : (wheel : RoomyBase) (timers more : Slab (Timer T)) (issued : ℕ)
      → KeepsQueue wheel timers issued → more ≡ record timers { capacity = more.capacity }
      → timers.capacity ≤ more.capacity → KeepsQueue wheel more issued
  keeps_roomier wheel timers more issued keeps is grows =
      let fits = keeps.fits in
      keeps_moved wheel wheel timers more issued keeps refl (ap (λ (s : Slab (Timer T)). s.slots) is) (omega arith)
      (omega (arith, fits, grows)) keeps.behind (omega arith) keeps.in_time

  pub keeps_reserved : (wheel next : RoomyBase) (timers : Slab (Timer T)) (issued more : ℕ)
      → KeepsQueue wheel timers issued → next ≡ reserved more wheel
      → slab_len timers + more ≤ timers.capacity → KeepsQueue next timers issued
  keeps_reserved wheel next timers issued more keeps is room =
      let fits = keeps.fits in
      let counted = keeps.counted in
      let clock_is : next.plain.clock ≡ wheel.plain.clock = ap (λ (b : RoomyBase). b.plain.clock) is in
      let in_time = keeps.in_time in
      let capacity : next.capacity ≡ max wheel.capacity (length wheel.plain.items + more) = ap (λ (b : RoomyBase). b.capacity) is in
      keeps_moved wheel next timers timers issued keeps (ap (λ (b : RoomyBase). b.plain.items) is) refl
      (omega (arith, capacity)) (omega (arith, capacity, fits, room, counted))
      (subst (λ (b : RoomyBase). NoneBehind b.plain) (sym is) keeps.behind)
      (omega (arith, clock_is)) (omega (arith, clock_is, in_time))

  -- A TIMER TAKEN OUT OF ITS SLOT
  pub record Cancelled (next : RoomyBase) (less : Slab (Timer T)) (issued : ℕ) : Type 0 where
    pub keeps : KeepsQueue next less issued
    pub free : length next.plain.items < next.capacity

  pub cancelled : (wheel next : RoomyBase) (timers less : Slab (Timer T)) (issued slot : ℕ)
      (timer : Timer T) → KeepsQueue wheel timers issued → next ≡ on_plain (removed slot) wheel
      → (NoneBehind wheel.plain → NoneBehind next.plain) → get timers slot ≡ Some timer
      → Updates timers less slot None → slab_len less + 1 ≡ slab_len timers
      → less.capacity ≡ timers.capacity → Cancelled next less issued
  cancelled wheel next timers less issued slot timer keeps is behind there updates fewer same =
      let item = filed_item (item_of slot wheel.plain.items) (get timers slot) timer (keeps.tied slot) there in
      let items_is : next.plain.items ≡ without slot wheel.plain.items = ap (λ (b : RoomyBase). b.plain.items) is in
      let clock_is : next.plain.clock ≡ wheel.plain.clock = ap (λ (b : RoomyBase). b.plain.clock) is in
      let room_is : next.capacity ≡ wheel.capacity = ap (λ (b : RoomyBase). b.capacity) is in
      let shorter = length-without slot wheel.plain.items item.found item.there in
      let long = ap (length {A = Item}) items_is in
      let few = keeps.few in
      let in_time = keeps.in_time in
      record {
        keeps = keeps_removed wheel next timers less issued slot item.found keeps item.there items_is room_is
            (behind keeps.behind) (omega (arith, clock_is)) (omega (arith, clock_is, in_time)) updates fewer same;
        free = omega (arith, shorter, long, few, room_is);
      }

  -- LOOKING AHEAD
  tied_free : (item : Option Item) (slot : Option (Timer T)) → AreTied item slot → item ≡ None
      → slot ≡ None
  tied_free None None tied is = refl
  tied_free None (Some timer) tied is = absurd tied
  tied_free (Some item) slot tied is = absurd (none-some item (sym is))

  pub none_queued : (wheel : RoomyBase) (timers : Slab (Timer T)) (issued : ℕ)
      → KeepsQueue wheel timers issued → least wheel.plain.items ≡ None → (key : Key)
      → at_key timers key ≡ None
  none_queued wheel timers issued keeps none key =
      let empty = least_none wheel.plain.items none in
      let slot = tied_free (item_of key.slot wheel.plain.items) (get timers key.slot) (keeps.tied key.slot) (ap (item_of key.slot) empty) in
      ap (λ s. option_map asked (numbered key.number s)) slot

  pub has_moment : (wheel : RoomyBase) (timers : Slab (Timer T)) (issued first : ℕ)
      → KeepsQueue wheel timers issued → least wheel.plain.items ≡ Some first
      → HasMoment (queue_of wheel timers issued) (first - 1)
  has_moment wheel timers issued first keeps is =
      let found = least_item wheel.plain.items first is in
      let at = item_queued wheel.plain.items found.item keeps.sound.distinct found.queued in
      let held = held_timer (item_of found.item.id wheel.plain.items) (get timers found.item.id) found.item (keeps.tied found.item.id) at in
      let wheel_is = held.tied.wheel in
      let same = found.wheel_is in
      record {
        key = record { slot = found.item.id; number = held.timer.number };
        timer = held.timer;
        there = ap (numbered held.timer.number) held.there ∙ numbered_same held.timer.number held.timer refl;
        is = omega (arith, wheel_is, same);
        least = λ other later there.
            let place = numbered_is other.number (get timers other.slot) later there in
            let from = moment_from wheel timers issued first other.slot later keeps (least_below wheel.plain.items first is) place.there in
            omega (arith, from);
      }
