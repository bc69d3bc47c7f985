-- what a queue keeps, as a timer comes, goes and is looked at
use Rattle.std.proofs.Common.{◌≡◌, ℕ, ◌+◌, ◌-◌, ◌^◌, ◌<◌, ◌≤◌, max, [], ◌∷◌, ◌++◌, length}
use Rattle.std.proofs.Common.{Option, Some, None, refl, ap, ◌∙◌, sym, subst, inl, inr, arith}
use Rattle.std.proofs.Common.{length-append}
use Rattle.std.specs.Prelude.{count_by, is_some, slice_index_or}
use Rattle.std.proofs.lemmas.Bool.{cases_eq}
use Rattle.std.proofs.lemmas.Option.{none-some, same_Some}
use Rattle.slab.specs.Slab.{Slab, Updates, get, slab_len}
use Rattle.wheel_core.specs.declared.item.Item.{Item}
use Rattle.wheel_core.specs.PlainBase.{IsSound, NoneBehind, NoneSooner, RoomyBase, added}
use Rattle.wheel_core.specs.PlainBase.{item_added, item_of, on_plain, without}
use Rattle.wheel_core.proofs.Ids.{gone_without, item_holds, item_of-push, item_of-pushed}
use Rattle.wheel_core.proofs.Ids.{item_of-without, length-without, sound_without}
use Rattle.wheel_core.proofs.Levels.{wheel_keeps_time}
use Rattle.wheel_core.proofs.Plain.{none_sooner, sound_added}
use Rattle.timer_queue.specs.declared.key.Key.{Key}
use Rattle.timer_queue.specs.declared.timer.Timer.{Timer}
use Rattle.timer_queue.specs.declared.timer.TheConstants.{LAST_TICK}
use Rattle.timer_queue.specs.Queues.{Asked, IsLawfulTimer, latest, numbered}
use Rattle.timer_queue.specs.Kept.{AreTied, IsTied, KeepsQueue, KeepsTimer, filed}
use Rattle.timer_queue.proofs.Times.{late_by_le, on_time}
use Rattle.timer_queue.proofs.Slots.{at_key, numbered_is, stands}

module _ {T : Type 0} where
  -- TIES
  tie_at : (a x : Option Item) (b y : Option (Timer T)) → a ≡ x → b ≡ y → AreTied x y → AreTied a b
  tie_at a x b y a_is b_is tied =
      subst (λ item. AreTied item b) (sym a_is) (subst (AreTied x) (sym b_is) tied)

  pub tied_none : (item : Option Item) (slot : Option (Timer T)) → AreTied item slot
      → slot ≡ None → item ≡ None
  tied_none None slot tied is = refl
  tied_none (Some item) None tied is = absurd tied
  tied_none (Some item) (Some timer) tied is = absurd (none-some timer (sym is))

  -- the wheel's item of a slot that has a timer
  pub record Filed (item : Option Item) (timer : Timer T) : Type 0 where
    pub found : Item
    pub there : item ≡ Some found
    pub tied : IsTied found timer

  pub filed_item : (item : Option Item) (slot : Option (Timer T)) (timer : Timer T)
      → AreTied item slot → slot ≡ Some timer → Filed item timer
  filed_item None None timer tied is = absurd (none-some timer is)
  filed_item None (Some found) timer tied is = absurd tied
  filed_item (Some item) None timer tied is = absurd tied
  filed_item (Some item) (Some found) timer tied is =
      record { found = item; there = refl; tied = subst (IsTied item) (same_Some found timer is) tied }

  -- the timer of an item that the wheel has
  pub record Held (slot : Option (Timer T)) (item : Item) : Type 0 where
    pub timer : Timer T
    pub there : slot ≡ Some timer
    pub tied : IsTied item timer

  pub held_timer : (found : Option Item) (slot : Option (Timer T)) (item : Item)
      → AreTied found slot → found ≡ Some item → Held slot item
  held_timer None slot item tied is = absurd (none-some item is)
  held_timer (Some found) None item tied is = absurd tied
  held_timer (Some found) (Some timer) item tied is =
      record {
        timer = timer;
        there = refl;
        tied = subst (λ i. IsTied i timer) (same_Some found item is) tied;
      }

  raise : (clock risen issued later : ℕ) (timer : Timer T) → clock ≤ risen → issued ≤ later
      → KeepsTimer clock issued timer → KeepsTimer risen later timer
  raise clock risen issued later timer c n keeps =
      let number = keeps.number in
      let armed = keeps.armed in
      record {
        number = omega (arith, number);
        expires = keeps.expires;
        armed = omega (arith, armed);
        promised = keeps.promised;
      }

  -- A TIMER GOES
  pub keeps_removed : (wheel next : RoomyBase) (timers less : Slab (Timer T)) (issued slot : ℕ)
      (item : Item) → KeepsQueue wheel timers issued → item_of slot wheel.plain.items ≡ Some item
      → next.plain.items ≡ without slot wheel.plain.items → next.capacity ≡ wheel.capacity
      → NoneBehind next.plain → wheel.plain.clock ≤ next.plain.clock
      → next.plain.clock ≤ 2 ^ 47 + 1 → Updates timers less slot None
      → slab_len less + 1 ≡ slab_len timers → less.capacity ≡ timers.capacity
      → KeepsQueue next less issued
  keeps_removed wheel next timers less issued slot item keeps is items_is room behind rises in_time updates fewer same =
      let started = keeps.started in
      let fits = keeps.fits in
      let counted = keeps.counted in
      let shorter = length-without slot wheel.plain.items item is in
      let long = ap (length {A = Item}) items_is in
      let few = keeps.few in
      record {
        tied = λ s. elim (cases_eq s slot) [
          | inl here ↦
              tie_at (item_of s next.plain.items) None (get less s) None
              (ap (item_of s) items_is ∙ ap (λ k. item_of k (without slot wheel.plain.items)) here
              ∙ gone_without slot wheel.plain.items keeps.sound.distinct)
              (ap (get less) here ∙ updates.changed) tt
          | inr away ↦
              tie_at (item_of s next.plain.items) (item_of s wheel.plain.items) (get less s) (get timers s)
              (ap (item_of s) items_is ∙ item_of-without s slot wheel.plain.items away)
              (updates.others s away) (keeps.tied s)
        ];
        each = λ s timer there. elim (cases_eq s slot) [
          | inl here ↦
              absurd (none-some timer (sym (ap (get less) here ∙ updates.changed) ∙ there))
          | inr away ↦
              raise wheel.plain.clock next.plain.clock issued issued timer rises (omega arith)
              (keeps.each s timer (sym (updates.others s away) ∙ there))
        ];
        counted = omega (arith, shorter, long, counted, fewer);
        few = omega (arith, shorter, long, few, room);
        fits = omega (arith, fits, room, same);
        sound = subst IsSound (sym items_is) (sound_without slot wheel.plain.items keeps.sound);
        behind = behind;
        started = omega (arith, started, rises);
        in_time = in_time;
      }

  -- A TIMER COMES
  pub keeps_filed : (wheel next : RoomyBase) (timers more : Slab (Timer T)) (issued later slot : ℕ)
      (timer : Timer T) → KeepsQueue wheel timers issued → get timers slot ≡ None
      → next ≡ on_plain (added slot timer.expires 0 0) wheel → NoneBehind next.plain
      → Updates timers more slot (Some (filed wheel.plain.clock timer))
      → slab_len more ≡ slab_len timers + 1 → more.capacity ≡ timers.capacity
      → timer.expires ≤ LAST_TICK → wheel.plain.clock ≤ LAST_TICK + 1 → timer.number < later
      → issued ≤ later → timer.armed < wheel.plain.clock
      → wheel.plain.clock ≤ max timer.armed timer.expires + 1
      → length wheel.plain.items < wheel.capacity → KeepsQueue next more later
  keeps_filed wheel next timers more issued later slot timer keeps vacant is behind updates longer same e k number grows armed near free =
      let started = keeps.started in
      let fits = keeps.fits in
      let counted = keeps.counted in
      let item = item_added wheel.plain.clock slot timer.expires 0 0 in
      let items_is : next.plain.items ≡ wheel.plain.items ++ item ∷ [] = ap (λ (b : RoomyBase). b.plain.items) is in
      let clock_is : next.plain.clock ≡ wheel.plain.clock = ap (λ (b : RoomyBase). b.plain.clock) is in
      let room : next.capacity ≡ wheel.capacity = ap (λ (b : RoomyBase). b.capacity) is in
      let none = tied_none (item_of slot wheel.plain.items) (get timers slot) (keeps.tied slot) vacant in
      let keeps_time = wheel_keeps_time timer.expires wheel.plain.clock (omega arith) (omega arith) in
      let not_before = keeps_time.not_before_clock in
      let long = ap (length {A = Item}) items_is ∙ length-append wheel.plain.items (item ∷ []) in
      let tie : IsTied item (filed wheel.plain.clock timer) = record { expires = refl; wheel = omega (arith, not_before, started) } in
      record {
        tied = λ s. elim (cases_eq s slot) [
          | inl here ↦
              tie_at (item_of s next.plain.items) (Some item) (get more s) (Some (filed wheel.plain.clock timer))
              (ap (item_of s) items_is ∙ ap (λ k. item_of k (wheel.plain.items ++ item ∷ [])) here
              ∙ item_of-pushed wheel.plain.items item none)
              (ap (get more) here ∙ updates.changed) tie
          | inr away ↦
              tie_at (item_of s next.plain.items) (item_of s wheel.plain.items) (get more s) (get timers s)
              (ap (item_of s) items_is ∙ item_of-push s wheel.plain.items item away)
              (updates.others s away) (keeps.tied s)
        ];
        each = λ s found there. elim (cases_eq s slot) [
          | inl here ↦
              let same_timer = same_Some (filed wheel.plain.clock timer) found (sym (ap (get more) here ∙ updates.changed) ∙ there) in
              let own : KeepsTimer next.plain.clock later (filed wheel.plain.clock timer) = record {
                number = number;
                expires = e;
                armed = omega (arith, clock_is, armed);
                promised = on_time timer.armed timer.expires wheel.plain.clock e k armed near;
              } in
              subst (KeepsTimer next.plain.clock later) same_timer own
          | inr away ↦
              raise wheel.plain.clock next.plain.clock issued later found (omega (arith, clock_is)) grows
              (keeps.each s found (sym (updates.others s away) ∙ there))
        ];
        counted = omega (arith, long, counted, longer);
        few = omega (arith, long, room, free);
        fits = omega (arith, fits, room, same);
        sound = subst (λ (b : RoomyBase). IsSound b.plain.items) (sym is)
            (sound_added slot timer.expires 0 0 wheel.plain (omega arith) (omega arith) none keeps.sound);
        behind = behind;
        started = omega (arith, clock_is, started);
        in_time = omega (arith, clock_is, k);
      }

  -- only the clock, or the room, changes
  pub keeps_moved : (wheel next : RoomyBase) (timers same : Slab (Timer T)) (issued : ℕ)
      → KeepsQueue wheel timers issued → next.plain.items ≡ wheel.plain.items
      → same.slots ≡ timers.slots → wheel.capacity ≤ next.capacity → next.capacity ≤ same.capacity
      → NoneBehind next.plain → wheel.plain.clock ≤ next.plain.clock
      → next.plain.clock ≤ 2 ^ 47 + 1 → KeepsQueue next same issued
  keeps_moved wheel next timers same issued keeps items_is slots_is more fits behind rises in_time =
      let started = keeps.started in
      let few = keeps.few in
      let long = ap (length {A = Item}) items_is in
      let at : (s : ℕ) → get same s ≡ get timers s = λ s. ap (λ slots. slice_index_or slots s None) slots_is in
      record {
        tied = λ s. tie_at (item_of s next.plain.items) (item_of s wheel.plain.items) (get same s) (get timers s)
            (ap (item_of s) items_is) (at s) (keeps.tied s);
        each = λ s timer there.
            raise wheel.plain.clock next.plain.clock issued issued timer rises (omega arith)
            (keeps.each s timer (sym (at s) ∙ there));
        counted = ap (count_by is_some) slots_is ∙ keeps.counted ∙ sym long;
        few = omega (arith, few, long, more);
        fits = fits;
        sound = subst IsSound (sym items_is) keeps.sound;
        behind = behind;
        started = omega (arith, started, rises);
        in_time = in_time;
      }

  -- WHAT EACH TIMER IS
  -- the moment of each is at least what all wheel expiries are, less one
  pub moment_from : (wheel : RoomyBase) (timers : Slab (Timer T)) (issued low slot : ℕ)
      (timer : Timer T) → KeepsQueue wheel timers issued → NoneSooner low wheel.plain.items
      → get timers slot ≡ Some timer → low ≤ timer.moment + 1
  moment_from wheel timers issued low slot timer keeps all there =
      let filed = filed_item (item_of slot wheel.plain.items) (get timers slot) timer (keeps.tied slot) there in
      let here = item_holds (λ item. low ≤ item.wheel) slot wheel.plain.items filed.found all filed.there in
      let tied = filed.tied.wheel in
      omega (arith, here, tied)

  pub latest_from : (wheel : RoomyBase) (timers : Slab (Timer T)) (issued low : ℕ) (key : Key)
      (a : Asked T) → KeepsQueue wheel timers issued → NoneSooner low wheel.plain.items
      → at_key timers key ≡ Some a → low ≤ a.latest + 1
  latest_from wheel timers issued low key a keeps all is =
      let stood = stands (numbered key.number (get timers key.slot)) a is in
      let at = numbered_is key.number (get timers key.slot) stood.timer stood.there in
      let from = moment_from wheel timers issued low key.slot stood.timer keeps all at.there in
      let promised = (keeps.each key.slot stood.timer at.there).promised in
      let late = ap (λ (b : Asked T). b.latest) stood.asked_is in
      omega (arith, from, promised, late)

  -- no promise is past reach
  pub timer_bound : (clock issued : ℕ) (timer : Timer T) → KeepsTimer clock issued timer
      → clock ≤ 2 ^ 47 + 1 → latest timer.armed timer.expires < 2 ^ 48
  timer_bound clock issued timer own in_time =
      let armed = own.armed in
      let expires = own.expires in
      let late = late_by_le (timer.expires - timer.armed) in
      omega (arith, armed, expires, in_time, late)

  pub latest_bound : (wheel : RoomyBase) (timers : Slab (Timer T)) (issued : ℕ) (key : Key)
      (a : Asked T) → KeepsQueue wheel timers issued → at_key timers key ≡ Some a
      → a.latest < 2 ^ 48
  latest_bound wheel timers issued key a keeps is =
      let stood = stands (numbered key.number (get timers key.slot)) a is in
      let at = numbered_is key.number (get timers key.slot) stood.timer stood.there in
      let bound = timer_bound wheel.plain.clock issued stood.timer (keeps.each key.slot stood.timer at.there) keeps.in_time in
      let late = ap (λ (b : Asked T). b.latest) stood.asked_is in
      omega (arith, bound, late)

  pub lawful_timer : (wheel : RoomyBase) (timers : Slab (Timer T)) (issued : ℕ) (key : Key)
      (timer : Timer T) → KeepsQueue wheel timers issued
      → numbered key.number (get timers key.slot) ≡ Some timer
      → IsLawfulTimer (wheel.plain.clock - 1) issued timer
  lawful_timer wheel timers issued key timer keeps is =
      let at = numbered_is key.number (get timers key.slot) timer is in
      let own = keeps.each key.slot timer at.there in
      let from = moment_from wheel timers issued wheel.plain.clock key.slot timer keeps (none_sooner wheel.plain keeps.behind) at.there in
      let armed = own.armed in
      record {
        number = own.number;
        expires = own.expires;
        armed = omega (arith, armed);
        promised = own.promised;
        not_past = omega (arith, from);
      }
