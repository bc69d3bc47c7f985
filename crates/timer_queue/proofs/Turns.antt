-- one turn of a queue: a timer out of the wheel and its slot, and in anew
use Rattle.std.proofs.Common.{◌≡◌, ℕ, ◌+◌, ◌-◌, ◌^◌, ◌<◌, ◌≤◌, max, min, Option, Some, None}
use Rattle.std.proofs.Common.{length, refl, ap, ◌∙◌, sym, subst, inl, inr, arith}
use Rattle.std.specs.Prelude.{◌==◌, option_map}
use Rattle.std.proofs.lemmas.Bool.{cases_Bool, cases_eq, cond-true, cond-false}
use Rattle.std.proofs.lemmas.Bool.Decides.{nat_tests}
use Rattle.std.proofs.lemmas.List.Elements.{All-weaker}
use Rattle.std.proofs.lemmas.Option.{same_Some}
use Rattle.slab.specs.Slab.{Slab, Updates, get, slab_len}
use Rattle.wheel_core.specs.declared.item.Item.{Item}
use Rattle.wheel_core.specs.PlainBase.{FitsWheel, IsDue, NoneBehind, NoneSooner, PlainBase, RoomyBase}
use Rattle.wheel_core.specs.PlainBase.{NoneDue, added, after_out, clock_forwarded, forwarded, item_of, least}
use Rattle.wheel_core.specs.PlainBase.{next_out, on_plain, taken, without}
use Rattle.wheel_core.specs.WheelExpiry.{wheel_expiry_of}
use Rattle.wheel_core.proofs.Ids.{all_without, item_holds, length-without}
use Rattle.wheel_core.proofs.Plain.{clock-forwarded_le, none_behind, none_sooner}
use Rattle.timer_queue.specs.declared.key.Key.{Key}
use Rattle.timer_queue.specs.declared.timer.Timer.{Timer}
use Rattle.timer_queue.specs.declared.timer.TheConstants.{LAST_TICK}
use Rattle.timer_queue.specs.Queues.{Queue, asked, latest, numbered}
use Rattle.timer_queue.specs.Kept.{IsTied, KeepsQueue, KeepsTimer, filed, queue_of, room_of}
use Rattle.timer_queue.specs.Turns.{GoesOn, GoesOut, IsTurn, PutsAnew, Rests, weight}
use Rattle.timer_queue.proofs.Times.{later}
use Rattle.timer_queue.proofs.Slots.{numbered_is, numbered_same, others_kept, updates_twice}
use Rattle.timer_queue.proofs.Keeps.{held_timer, keeps_filed, keeps_moved, keeps_removed, latest_bound}
use Rattle.timer_queue.proofs.Keeps.{latest_from, moment_from, timer_bound}
use Rattle.timer_queue.proofs.Left.{left_updated}

-- what an item's leaving the wheel says of it
pub record Left (until : ℕ) (wheel first : RoomyBase) (item : Item) : Type 0 where
  pub items : first.plain.items ≡ without item.id wheel.plain.items
  pub clock : first.plain.clock ≡ item.wheel + 1
  pub capacity : first.capacity ≡ wheel.capacity
  pub ahead : wheel.plain.clock ≤ item.wheel
  pub in_time : item.wheel ≤ 2 ^ 47
  pub low : NoneSooner item.wheel first.plain.items

reaches : (ahead clock : ℕ) (first : Option ℕ) → ((w : ℕ) → first ≡ Some w → ahead ≤ w)
    → ahead ≤ clock_forwarded ahead clock first
reaches ahead clock None low = grind (arith, nat_tests)
reaches ahead clock (Some w) low = let here = low w refl in grind (arith, nat_tests, here)

forwards : (ahead clock : ℕ) (first : Option ℕ) → ((w : ℕ) → first ≡ Some w → clock ≤ w)
    → clock ≤ clock_forwarded ahead clock first
forwards ahead clock None low = grind (arith, nat_tests)
forwards ahead clock (Some w) low = let here = low w refl in grind (arith, nat_tests, here)

-- the clock after it was brought on, with nothing due
pub record Moved (ahead : ℕ) (wheel next : RoomyBase) : Type 0 where
  pub items : next.plain.items ≡ wheel.plain.items
  pub capacity : next.capacity ≡ wheel.capacity
  pub reached : ahead ≤ next.plain.clock
  pub rises : wheel.plain.clock ≤ next.plain.clock
  pub near : next.plain.clock ≤ max wheel.plain.clock ahead

pub moved : (ahead until : ℕ) (wheel next : RoomyBase) → NoneBehind wheel.plain
    → NoneDue until wheel.plain.items → ahead ≤ until
    → next ≡ on_plain (forwarded ahead) wheel → Moved ahead wheel next
moved ahead until wheel next behind none soon is =
    let at : PlainBase = record { items = wheel.plain.items; clock = ahead } in
    let later : NoneBehind at = none_behind at
    (All-weaker (λ item. until < item.wheel) (λ item. ahead ≤ item.wheel) (λ item h. omega (arith, h, soon)) wheel.plain.items none) in
    let clock_is : next.plain.clock ≡ clock_forwarded ahead wheel.plain.clock (least wheel.plain.items) = ap (λ (b : RoomyBase). b.plain.clock) is in
    let reached = reaches ahead wheel.plain.clock (least wheel.plain.items) later in
    let rises = forwards ahead wheel.plain.clock (least wheel.plain.items) behind in
    let near = clock-forwarded_le ahead wheel.plain in
    record {
      items = ap (λ (b : RoomyBase). b.plain.items) is;
      capacity = ap (λ (b : RoomyBase). b.capacity) is;
      reached = omega (arith, clock_is, reached);
      rises = omega (arith, clock_is, rises);
      near = omega (arith, clock_is, near);
    }

-- the clock that was behind is back at the least wheel expiry
pub settled : (low first clock : ℕ) (wheel next : RoomyBase)
    → next ≡ on_plain (forwarded (clock + 1)) wheel → clock ≡ wheel.plain.clock
    → Some first ≡ least wheel.plain.items → first < clock → NoneSooner low wheel.plain.items
    → low ≤ next.plain.clock
settled low first clock wheel next is clock_is first_is behind all =
    let at : PlainBase = record { items = wheel.plain.items; clock = low } in
    let here : low ≤ first = none_behind at all first (sym first_is) in
    let row : clock_forwarded (clock + 1) wheel.plain.clock (Some first) ≡ first = grind (arith, nat_tests, clock_is, behind) in
    let back : next.plain.clock ≡ first =
    ap (λ (b : RoomyBase). b.plain.clock) is
    ∙ ap (clock_forwarded (clock + 1) wheel.plain.clock) (sym first_is) ∙ row in
    omega (arith, here, back)

module _ {T : Type 0} where
  pub left_wheel : (until : ℕ) (wheel first : RoomyBase) (timers : Slab (Timer T)) (issued : ℕ)
      (item : Item) → KeepsQueue wheel timers issued → IsDue until wheel.plain.items item
      → first ≡ on_plain (taken until) wheel → Some item ≡ next_out until wheel.plain
      → Left until wheel first item
  left_wheel until wheel first timers issued item keeps due is out =
      let after : first.plain ≡ after_out wheel.plain (Some item) =
      ap (λ (b : RoomyBase). b.plain) is ∙ ap (after_out wheel.plain) (sym out) in
      let items : first.plain.items ≡ without item.id wheel.plain.items = ap (λ (b : PlainBase). b.items) after in
      let clock : first.plain.clock ≡ max wheel.plain.clock (item.wheel + 1) = ap (λ (b : PlainBase). b.clock) after in
      let ahead = item_holds (λ i. wheel.plain.clock ≤ i.wheel) item.id wheel.plain.items item (none_sooner wheel.plain keeps.behind) due.queued in
      record {
        items = items;
        clock = omega (arith, clock, ahead);
        capacity = ap (λ (b : RoomyBase). b.capacity) is;
        ahead = ahead;
        in_time = (item_holds FitsWheel item.id wheel.plain.items item keeps.sound.in_wheel due.queued).wheel;
        low = subst (NoneSooner item.wheel) (sym items)
            (all_without (λ i. item.wheel ≤ i.wheel) item.id wheel.plain.items due.soonest);
      }

  -- a timer is out of the wheel, which has settled, and of its slot
  pub record Took (until : ℕ) (wheel next : RoomyBase) (timers less : Slab (Timer T)) (issued : ℕ)
      (item : Item) (timer : Timer T) : Type 0 where
    pub keeps : KeepsQueue next less issued
    pub was : get timers item.id ≡ Some timer
    pub tied : IsTied item timer
    pub own : KeepsTimer wheel.plain.clock issued timer
    pub due : item.wheel ≤ until
    pub low : NoneSooner item.wheel next.plain.items
    pub ahead : wheel.plain.clock ≤ item.wheel
    pub reached : item.wheel ≤ next.plain.clock
    pub near : next.plain.clock ≤ item.wheel + 1
    pub wheel_room : next.capacity ≡ wheel.capacity
    pub slots_room : less.capacity ≡ timers.capacity
    pub updates : Updates timers less item.id None
    pub fewer : slab_len less + 1 ≡ slab_len timers
    pub free : length next.plain.items < next.capacity

  pub took : (until : ℕ) (wheel first next : RoomyBase) (timers less : Slab (Timer T))
      (issued : ℕ) (item : Item) (timer : Timer T) → KeepsQueue wheel timers issued
      → IsDue until wheel.plain.items item
      → first ≡ on_plain (taken until) wheel → Some item ≡ next_out until wheel.plain
      → next.plain.items ≡ first.plain.items → next.capacity ≡ first.capacity
      → NoneBehind next.plain → next.plain.clock ≤ first.plain.clock
      → ((low : ℕ) → low ≤ first.plain.clock → NoneSooner low first.plain.items → low ≤ next.plain.clock)
      → get timers item.id ≡ Some timer → Updates timers less item.id None
      → slab_len less + 1 ≡ slab_len timers → less.capacity ≡ timers.capacity
      → Took until wheel next timers less issued item timer
  took until wheel first next timers less issued item timer keeps due is out items_is room_is behind back settles there updates fewer same =
      let gone = left_wheel until wheel first timers issued item keeps due is out in
      let clock = gone.clock in
      let ahead = gone.ahead in
      let in_time = gone.in_time in
      let shorter = length-without item.id wheel.plain.items item due.queued in
      let long = ap (length {A = Item}) (items_is ∙ gone.items) in
      let few = keeps.few in
      let gone_room = gone.capacity in
      let reached = settles item.wheel (omega (arith, clock)) gone.low in
      let held = held_timer (item_of item.id wheel.plain.items) (get timers item.id) item (keeps.tied item.id) due.queued in
      record {
        keeps = keeps_removed wheel next timers less issued item.id item keeps due.queued
            (items_is ∙ gone.items) (room_is ∙ gone.capacity) behind (omega (arith, ahead, reached))
            (omega (arith, back, clock, in_time)) updates fewer same;
        was = there;
        tied = subst (IsTied item) (same_Some held.timer timer (sym held.there ∙ there)) held.tied;
        own = keeps.each item.id timer there;
        due = due.due;
        low = subst (NoneSooner item.wheel) (sym items_is) gone.low;
        ahead = ahead;
        reached = reached;
        near = omega (arith, back, clock);
        wheel_room = room_is ∙ gone.capacity;
        slots_room = same;
        updates = updates;
        fewer = fewer;
        free = omega (arith, shorter, long, few, gone_room, room_is);
      }

  -- THE TIMER GOES OUT
  pub goes_out : (now until : ℕ) (wheel next : RoomyBase) (timers less : Slab (Timer T))
      (issued : ℕ) (item : Item) (timer : Timer T)
      → Took until wheel next timers less issued item timer → item.expires < item.wheel
      → until ≤ now + 1
      → GoesOut now (queue_of wheel timers issued) (queue_of next less issued)
      (record { slot = item.id; number = timer.number }) timer.expires timer.value
  goes_out now until wheel next timers less issued item timer took close soon =
      let key : Key = record { slot = item.id; number = timer.number } in
      let due = took.due in
      let ahead = took.ahead in
      let reached = took.reached in
      let near = took.near in
      let asked_is = took.tied.expires in
      record {
        turn = record {
          rises = omega (arith, ahead, reached);
          near = omega (arith, near, due, soon);
          issued = refl;
          room = ap (λ w. room_of w less.capacity) took.wheel_room ∙ ap (room_of wheel.capacity) took.slots_room;
        };
        was = (
          latest timer.armed timer.expires,
          ap (option_map asked) (ap (numbered timer.number) took.was ∙ numbered_same timer.number timer refl),
        );
        gone = ap (option_map asked) (ap (numbered timer.number) took.updates.changed);
        others = others_kept timers less key (Some timer) None took.was took.updates refl tt;
        fewer = took.fewer;
        never_early = omega (arith, asked_is, close, due, soon);
        order = λ other a there.
            let late = latest_from next less issued item.wheel other a took.keeps took.low there in
            omega (arith, late, asked_is, close);
      }

  -- IT IS PUT IN ANEW
  same_asked : (n : ℕ) (a b : Timer T) → a.number ≡ b.number → asked a ≡ asked b
      → option_map asked (numbered n (Some a)) ≡ option_map asked (numbered n (Some b))
  same_asked n a b number same =
      elim (cases_Bool (b.number == n)) [
        | inl here ↦
            ap (option_map asked) (cond-true (a.number == n) (Some a) None (ap (λ m. m == n) number ∙ here))
            ∙ ap Some same ∙ sym (ap (option_map asked) (cond-true (b.number == n) (Some b) None here))
        | inr other ↦
            ap (option_map asked) (cond-false (a.number == n) (Some a) None (ap (λ m. m == n) number ∙ other)
            ∙ sym (cond-false (b.number == n) (Some b) None other))
      ]

  pub anew_keeps : (until again : ℕ) (wheel next last : RoomyBase)
      (timers less more : Slab (Timer T)) (issued : ℕ) (item : Item) (timer : Timer T)
      → Took until wheel next timers less issued item timer → item.wheel ≤ item.expires
      → get less again ≡ None → last ≡ on_plain (added again timer.expires 0 0) next
      → NoneBehind last.plain → Updates less more again (Some (filed next.plain.clock timer))
      → slab_len more ≡ slab_len less + 1 → more.capacity ≡ less.capacity
      → KeepsQueue last more issued
  anew_keeps until again wheel next last timers less more issued item timer took far vacant is behind updates longer same =
      let ahead = took.ahead in
      let reached = took.reached in
      let near = took.near in
      let asked_is = took.tied.expires in
      let expires = took.own.expires in
      let armed = took.own.armed in
      keeps_filed next last less more issued issued again timer took.keeps vacant is behind updates longer same
      expires (omega (arith, near, far, asked_is, expires)) took.own.number (omega arith)
      (omega (arith, armed, ahead, reached)) (omega (arith, near, far, asked_is)) took.free

  pub puts_anew : (now until again : ℕ) (wheel next last : RoomyBase)
      (timers less more : Slab (Timer T)) (issued : ℕ) (item : Item) (timer : Timer T)
      → Took until wheel next timers less issued item timer → item.wheel ≤ item.expires
      → until ≤ now + 1 → again ≡ item.id
      → last ≡ on_plain (added again timer.expires 0 0) next
      → Updates less more again (Some (filed next.plain.clock timer))
      → slab_len more ≡ slab_len less + 1 → more.capacity ≡ less.capacity
      → PutsAnew now (queue_of wheel timers issued) (queue_of last more issued)
  puts_anew now until again wheel next last timers less more issued item timer took far soon again_is is updates longer same =
      let due = took.due in
      let ahead = took.ahead in
      let reached = took.reached in
      let near = took.near in
      let asked_is = took.tied.expires in
      let wheel_is = took.tied.wheel in
      let fewer = took.fewer in
      let expires = took.own.expires in
      let clock_is : last.plain.clock ≡ next.plain.clock = ap (λ (b : RoomyBase). b.plain.clock) is in
      let room_is : last.capacity ≡ next.capacity = ap (λ (b : RoomyBase). b.capacity) is in
      let both = updates_twice timers less more item.id again None (Some (filed next.plain.clock timer)) took.updates updates again_is in
      let after = later item.wheel timer.expires next.plain.clock expires (omega (arith, far, asked_is)) reached near in
      let moved = left_updated now item.id timers.slots more.slots both.others in
      let was : weight now (get timers item.id) ≡ now + 2 - timer.moment = ap (weight now) took.was in
      let is_now : weight now (get more item.id) ≡ now + 2 - (wheel_expiry_of timer.expires next.plain.clock - 1) = ap (weight now) both.changed in
      record {
        on = record {
          turn = record {
            rises = omega (arith, ahead, reached, clock_is);
            near = omega (arith, near, due, soon, clock_is);
            issued = refl;
            room = ap (λ w. room_of w more.capacity) (room_is ∙ took.wheel_room) ∙ ap (room_of wheel.capacity) (same ∙ took.slots_room);
          };
          same = record {
            kept = λ key. elim (cases_eq key.slot item.id) [
              | inl here ↦
                  ap (λ slot. option_map asked (numbered key.number slot)) (ap (get more) here ∙ both.changed)
                  ∙ same_asked key.number (filed next.plain.clock timer) timer refl refl
                  ∙ sym (ap (λ slot. option_map asked (numbered key.number slot)) (ap (get timers) here ∙ took.was))
              | inr away ↦
                  ap (λ slot. option_map asked (numbered key.number slot)) (both.others key.slot away)
            ];
            count = omega (arith, longer, fewer);
          };
        };
        less = omega (arith, moved, was, is_now, after, wheel_is, due, soon);
      }

  -- NOTHING IS DUE
  pub rests_keeps : (ahead until issued : ℕ) (wheel next : RoomyBase) (timers : Slab (Timer T))
      → KeepsQueue wheel timers issued → NoneDue until wheel.plain.items → ahead ≤ until
      → ahead ≤ LAST_TICK + 1 → next ≡ on_plain (forwarded ahead) wheel → NoneBehind next.plain
      → KeepsQueue next timers issued
  rests_keeps ahead until issued wheel next timers keeps none soon low is behind =
      let on = moved ahead until wheel next keeps.behind none soon is in
      let near = on.near in
      let in_time = keeps.in_time in
      let room = on.capacity in
      let fits = keeps.fits in
      keeps_moved wheel next timers timers issued keeps on.items refl (omega (arith, room)) (omega (arith, room, fits)) behind on.rises
      (omega (arith, near, in_time, low))

  pub rests : (now ahead until issued : ℕ) (wheel next : RoomyBase) (timers : Slab (Timer T))
      → KeepsQueue wheel timers issued → NoneDue until wheel.plain.items → ahead ≡ min now LAST_TICK + 1
      → min now (2 ^ 48) < until → until ≤ now + 1 → next ≡ on_plain (forwarded ahead) wheel
      → Rests now (queue_of wheel timers issued) (queue_of next timers issued)
  rests now ahead until issued wheel next timers keeps none ahead_is high soon is =
      let on = moved ahead until wheel next keeps.behind none (omega (arith, ahead_is, high)) is in
      let reached = on.reached in
      let risen = on.rises in
      let near = on.near in
      let all : NoneSooner (until + 1) wheel.plain.items =
      All-weaker (λ item. until < item.wheel) (λ item. until + 1 ≤ item.wheel) (λ item h. omega (arith, h)) wheel.plain.items none in
      record {
        turn = record {
          rises = omega (arith, risen);
          near = omega (arith, near, ahead_is);
          issued = refl;
          room = ap (λ w. room_of w timers.capacity) on.capacity;
        };
        same = record { kept = λ key. refl; count = refl };
        none_late = λ key a there.
            let from = latest_from wheel timers issued (until + 1) key a keeps all there in
            let bound = latest_bound wheel timers issued key a keeps there in
            omega (arith, from, bound, high);
        none_due = λ key timer there.
            let at = numbered_is key.number (get timers key.slot) timer there in
            let own = keeps.each key.slot timer at.there in
            let from = moment_from wheel timers issued (until + 1) key.slot timer keeps all at.there in
            let promised = own.promised in
            let bound = timer_bound wheel.plain.clock issued timer own keeps.in_time in
            omega (arith, from, promised, bound, high);
        reaches = omega (arith, reached, ahead_is);
      }

  -- TURN AFTER TURN
  pub goes_on_none : (now : ℕ) (q : Queue T) → GoesOn now q q
  goes_on_none now q = record {
    turn = record { rises = omega arith; near = omega arith; issued = refl; room = refl };
    same = record { kept = λ key. refl; count = refl };
  }

  turns : (now : ℕ) (a b c : Queue T) → IsTurn now a b → IsTurn now b c → IsTurn now a c
  turns now a b c first second =
      let one = first.rises in
      let two = second.rises in
      let three = first.near in
      let four = second.near in
      record {
        rises = omega (arith, one, two);
        near = omega (arith, three, four);
        issued = second.issued ∙ first.issued;
        room = second.room ∙ first.room;
      }

  pub goes_on_more : (now : ℕ) (a b c : Queue T) → GoesOn now a b → GoesOn now b c → GoesOn now a c
  goes_on_more now a b c first second = record {
    turn = turns now a b c first.turn second.turn;
    same = record {
      kept = λ key. second.same.kept key ∙ first.same.kept key;
      count = second.same.count ∙ first.same.count;
    };
  }

  pub goes_on_out : (now : ℕ) (a b c : Queue T) (key : Key) (expires : ℕ) (value : T)
      → GoesOn now a b → GoesOut now b c key expires value → GoesOut now a c key expires value
  goes_on_out now a b c key expires value first second = record {
    turn = turns now a b c first.turn second.turn;
    was = (second.was.0, sym (first.same.kept key) ∙ second.was.1);
    gone = second.gone;
    others = λ other apart. second.others other apart ∙ first.same.kept other;
    fewer = second.fewer ∙ first.same.count;
    never_early = second.never_early;
    order = second.order;
  }

  pub goes_on_rests : (now : ℕ) (a b c : Queue T) → GoesOn now a b → Rests now b c → Rests now a c
  goes_on_rests now a b c first second = record {
    turn = turns now a b c first.turn second.turn;
    same = record {
      kept = λ key. second.same.kept key ∙ first.same.kept key;
      count = second.same.count ∙ first.same.count;
    };
    none_late = second.none_late;
    none_due = second.none_due;
    reaches = second.reaches;
  }
