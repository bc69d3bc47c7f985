-- what a drain hands out was due, and doesn't go out again
use Rattle.std.proofs.Common.{◌≡◌, ℕ, zero, suc, ◌+◌, ◌<◌, ◌≤◌, List, [], ◌∷◌, Bool, true, false}
use Rattle.std.proofs.Common.{Option, Some, None, refl, sym, ap, ◌∙◌, subst, arith, inl, inr}
use Rattle.std.proofs.Common.{get_or}
use Rattle.std.proofs.Common.{length}
use Rattle.std.specs.Prelude.{All, ◌&&◌, ◌==◌, if◌then◌else◌, is_some, not}
use Rattle.std.proofs.lemmas.Bool.{and_from, and_parts, both_ways, cases_Bool, cond_both, eq-eqb}
use Rattle.std.proofs.lemmas.Bool.{ne_eqb, not_from_false, not_from_true}
use Rattle.std.proofs.lemmas.List.Elements.{All-cons, All-nil}
use Rattle.std.proofs.lemmas.Option.{none-some}
use Rattle.tm_base.specs.Classes.{same_class}
use Rattle.tm_base.specs.declared.names.Class.{Class}
use Rattle.tm_base.specs.declared.names.CpuId.{CpuId}
use Rattle.wheel_core.specs.declared.item.Item.{Item}
use Rattle.wheel_core.specs.PlainBase.{IsSound, OutIsDue, PlainBase, after_out, item_of, next_out}
use Rattle.wheel_core.specs.PlainBase.{taken}
use Rattle.wheel_core.proofs.Ids.{item_holds, still_none}
use Rattle.wheel_core.proofs.Plain.{all_after_out, due_out, gone_after_out, sound_after_out}
use Rattle.cpu_bases.specs.CpuBases.{CpuBases, after_hand_out, base_of, drained, handed_out}
use Rattle.cpu_bases.proofs.Classes.{class_is, class_itself, of_class-with}
use Rattle.play_rules.specs.State.{State}
use Rattle.play_rules.specs.Timers.{bases_at, drained_on, due_items, item_then}
use Rattle.play_laws.proofs.Answered.Bases.{changed_kept}
use Rattle.play_laws.proofs.Jiffies.Sleepers.{one_fewer}
use Rattle.play_laws.proofs.Work.Homes.{AreHomes, Home, IsHome, all_apart, count_of}
use Rattle.play_laws.proofs.Work.Homes.{home_taken, homes_of, not_there, written_homes}

-- THE BASE of the class, as an item goes out
handed_by : (now : ℕ) (class : Class) (by : CpuId) (b : CpuBases) (o : Option Item)
    → next_out now (base_of class b) ≡ o
    → base_of class (after_hand_out o now class by b) ≡ taken now (base_of class b)
handed_by now class by b None is = ap (after_out (base_of class b)) (sym is)
handed_by now class by b (Some item) is = of_class-with class (taken now (base_of class b)) b.bases

pub handed_is : (now : ℕ) (class : Class) (by : CpuId) (b : CpuBases)
    → base_of class (handed_out now class by b) ≡ taken now (base_of class b)
handed_is now class by b = handed_by now class by b (next_out now (base_of class b)) refl

-- EACH BASE keeps in a drain what it keeps as one item goes out
module _ (now : ℕ) (P : PlainBase → Type 0)
    (step : (base : PlainBase) → P base → P (taken now base)) (k class : Class) (by : CpuId) where
  hand_keeps : (o : Option Item) (b : CpuBases) → P (base_of k b)
      → P (base_of k (after_hand_out o now class by b))
  hand_keeps None b holds = holds
  hand_keeps (Some item) b holds =
      changed_kept P k class (taken now (base_of class b)) b (step (base_of class b)) holds

  pub drain_keeps : (most : ℕ) (b : CpuBases) → P (base_of k b)
      → P (base_of k (drained most now class by b))
  drain_keeps zero b holds = hand_keeps (next_out now (base_of class b)) b holds
  drain_keeps (suc most) b holds =
      let after = hand_keeps (next_out now (base_of class b)) b holds in
      cond_both (is_some (next_out now (base_of class b)))
      (drained most now class by (handed_out now class by b)) (handed_out now class by b)
      (λ x. P (base_of k x)) (λ more. drain_keeps most (handed_out now class by b) after)
      (λ end. after)

-- WHO MAY GO OUT, once items went out of a base that had these, and others are left of it
abbrev MayGo : (now : ℕ) → (ℕ → Bool) → Item → Type 0
MayGo now may item = item.wheel ≤ now → may item.id ≡ true

pub record Went (timers now : ℕ) (may : ℕ → Bool) (old out left : List Item) : Type 0 where
  pub after : ℕ → Bool
  pub stays : (t : ℕ) → may t ≡ true → item_of t old ≡ None → after t ≡ true
  pub paid : length out + count_of timers after ≤ count_of timers may
  pub known : All (λ item. item.id < timers) out
  pub may_go : All (MayGo now after) left

-- all but one
abbrev but : (ℕ → Bool) → (id : ℕ) → ℕ → Bool
but may id t = may t && not (t == id)

but_other : (may : ℕ → Bool) (id t : ℕ) → may t ≡ true → (t ≡ id → ⊥) → but may id t ≡ true
but_other may id t is other =
    and_from (may t) (not (t == id)) is (not_from_false (t == id) (ne_eqb t id other))

but_itself : (may : ℕ → Bool) (id : ℕ) → but may id id ≡ false
but_itself may id =
    elim (may id) as (λ b. (b && not (id == id)) ≡ false)
    [ true ↦ not_from_true (id == id) (eq-eqb id id refl) | false ↦ refl ]

-- A DRAIN of a class, item by item
module _ (timers now : ℕ) (class : Class) (by : CpuId) where
  abbrev Known : Item → Type 0
  Known item = item.id < timers

  -- one item goes out: it was due
  module _ (may : ℕ → Bool) (base : PlainBase) (sound : IsSound base.items)
      (known : All Known base.items) (go : All (MayGo now may) base.items) (item : Item)
      (is : next_out now base ≡ Some item) where
    due : OutIsDue now base.items (Some item)
    due = subst (OutIsDue now base.items) is (due_out now base sound)

    taken_is : taken now base ≡ after_out base (Some item)
    taken_is = ap (after_out base) is

    gone : item_of item.id (taken now base).items ≡ None
    gone =
        subst (λ (x : PlainBase). item_of item.id x.items ≡ None) (sym taken_is)
        (gone_after_out base item sound)

    pub one_paid : suc (count_of timers (but may item.id)) ≤ count_of timers may
    one_paid =
        one_fewer may (but may item.id) timers item.id
        (λ t on. (and_parts (may t) (not (t == item.id)) on).0)
        (item_holds Known item.id base.items item known due.queued)
        (item_holds (MayGo now may) item.id base.items item go due.queued due.due)
        (but_itself may item.id)

    pub rest_go : All (MayGo now (but may item.id)) (taken now base).items
    rest_go = λ i d low is_due.
        but_other may item.id (get_or (taken now base).items i d).id
        (all_after_out (MayGo now may) base (next_out now base) go i d low is_due)
        (all_apart item.id (taken now base).items gone i d low)

    -- what wasn't there still isn't, and isn't this one
    pub other_stays : (t : ℕ) → may t ≡ true → item_of t base.items ≡ None
        → (but may item.id t ≡ true) × (item_of t (taken now base).items ≡ None)
    other_stays t on none = (
      but_other may item.id t on
          (λ same. none-some item
          (sym none ∙ ap (λ id. item_of id base.items) same ∙ due.queued)),
      subst (λ (x : PlainBase). item_of t x.items ≡ None) (sym taken_is)
          (still_none t item.id base.items none),
    )

    -- and then what goes out after it
    pub went_on : (out left : List Item)
        → Went timers now (but may item.id) (taken now base).items out left
        → Went timers now may base.items (item ∷ out) left
    went_on out left rest =
        let one = one_paid in
        let more = rest.paid in
        record {
          after = rest.after;
          stays = λ t on none. (
              let still = other_stays t on none in rest.stays t still.0 still.1);
          paid = omega (arith, one, more);
          known =
              All-cons Known item out (item_holds Known item.id base.items item known due.queued)
              rest.known;
          may_go = rest.may_go;
        }

  none_went : (may : ℕ → Bool) (old left : List Item) → All (MayGo now may) left
      → Went timers now may old [] left
  none_went may old left go = record {
    after = may;
    stays = λ t on none. on;
    paid = omega arith;
    known = All-nil Known;
    may_go = go;
  }

  handed_go : (may : ℕ → Bool) (b : CpuBases) → All (MayGo now may) (base_of class b).items
      → All (MayGo now may) (base_of class (handed_out now class by b)).items
  handed_go may b go =
      subst (λ (x : PlainBase). All (MayGo now may) x.items) (sym (handed_is now class by b))
      (all_after_out (MayGo now may) (base_of class b) (next_out now (base_of class b)) go)

  -- what a drain of at most so many items does
  abbrev pub Drains : (most : ℕ) → Type 0
  Drains most =
      (may : ℕ → Bool) (b : CpuBases) → IsSound (base_of class b).items
      → All Known (base_of class b).items → All (MayGo now may) (base_of class b).items
      → Went timers now may (base_of class b).items (due_items most now (base_of class b))
      (base_of class (drained most now class by b)).items

  module _ (most : ℕ) (rest : Drains most) (may : ℕ → Bool) (b : CpuBases)
      (sound : IsSound (base_of class b).items) (known : All Known (base_of class b).items)
      (go : All (MayGo now may) (base_of class b).items) where
    rest_went : (item : Item) → next_out now (base_of class b) ≡ Some item
        → Went timers now (but may item.id) (taken now (base_of class b)).items
        (due_items most now (taken now (base_of class b)))
        (base_of class (drained most now class by (handed_out now class by b))).items
    rest_went item is =
        let base = base_of class b in
        let same = handed_is now class by b in
        subst
        (λ (x : PlainBase).
        Went timers now (but may item.id) x.items (due_items most now x)
        (base_of class (drained most now class by (handed_out now class by b))).items)
        same
        (rest (but may item.id) (handed_out now class by b)
        (subst (λ (x : PlainBase). IsSound x.items) (sym same)
        (sound_after_out base (next_out now base) sound))
        (subst (λ (x : PlainBase). All Known x.items) (sym same)
        (all_after_out Known base (next_out now base) known))
        (subst (λ (x : PlainBase). All (MayGo now (but may item.id)) x.items) (sym same)
        (rest_go may base sound known go item is)))

    next_went : (o : Option Item) → next_out now (base_of class b) ≡ o
        → Went timers now may (base_of class b).items
        (item_then o (due_items most now (taken now (base_of class b))))
        (base_of class
        (if is_some o then drained most now class by (handed_out now class by b)
        else handed_out now class by b)).items
    next_went None is =
        none_went may (base_of class b).items (base_of class (handed_out now class by b)).items
        (handed_go may b go)
    next_went (Some item) is =
        went_on may (base_of class b) sound known go item is
        (due_items most now (taken now (base_of class b)))
        (base_of class (drained most now class by (handed_out now class by b))).items
        (rest_went item is)

  pub went : (most : ℕ) → Drains most
  unfolding due_items
  went zero may b sound known go =
      none_went may (base_of class b).items (base_of class (handed_out now class by b)).items
      (handed_go may b go)
  went (suc most) may b sound known go =
      next_went most (went most) may b sound known go (next_out now (base_of class b)) refl

-- A DRAIN of a CPU's base pays for each item that it hands out
pub record Paid (timers cpus levels paid : ℕ) (may : ℕ → Bool) (s : State) : Type 0 where
  pub after : ℕ → Bool
  pub homes : AreHomes timers cpus levels after s
  pub enough : paid + count_of timers after ≤ count_of timers may

module _ (timers cpus levels : ℕ) (may : ℕ → Bool) (s : State)
    (is : AreHomes timers cpus levels may s) (c : ℕ) (low : c < cpus) (class : Class)
    (runner : ℕ) where
  abbrev old : CpuBases
  old = bases_at s c

  abbrev new : CpuBases
  new = drained (length (base_of class old).items) s.clock class (record { 0 = runner }) old

  abbrev Gone : Type 0
  Gone = Went timers s.clock may (base_of class old).items
      (due_items (length (base_of class old).items) s.clock (base_of class old))
      (base_of class new).items

  -- a base with another home has none of the items that went out
  elsewhere : (out : Gone) (here : Home) (base : PlainBase) → (here ≡ (c, class) → ⊥)
      → IsHome timers s.clock is.home may here base
      → IsHome timers s.clock is.home out.after here base
  elsewhere out here base other at = record {
    sound = at.sound;
    clock = at.clock;
    all = λ i d below.
        let item = at.all i d below in
        record {
          home_is = item.home_is;
          known = item.known;
          may_go = λ due. out.stays (get_or base.items i d).id (item.may_go due)
              (not_there (get_or base.items i d).id is.home (c, class) (base_of class old).items
              (homes_of timers s.clock is.home may (c, class) (base_of class old).items
              (is.each c class low).all)
              (λ same. other (sym item.home_is ∙ same)));
        };
  }

  -- what is left of the base that was drained
  left_over : (out : Gone) → IsHome timers s.clock is.home may (c, class) (base_of class new)
      → IsHome timers s.clock is.home out.after (c, class) (base_of class new)
  left_over out at = record {
    sound = at.sound;
    clock = at.clock;
    all = λ i d below.
        let item = at.all i d below in
        record {
          home_is = item.home_is;
          known = item.known;
          may_go = out.may_go i d below;
        };
  }

  left_home : (k : Class) → IsHome timers s.clock is.home may (c, k) (base_of k new)
  left_home k =
      drain_keeps s.clock (IsHome timers s.clock is.home may (c, k))
      (λ base at. home_taken timers s.clock is.home may (c, k) is.early base at) k class
      (record { 0 = runner }) (length (base_of class old).items) old (is.each c k low)

  own_home : (out : Gone) (k : Class)
      → IsHome timers s.clock is.home out.after (c, k) (base_of k new)
  own_home out k =
      elim (cases_Bool (same_class class k)) [
        | inl same ↦
            subst
            (λ j. IsHome timers s.clock is.home out.after (c, j) (base_of j new))
            (class_is class k same) (left_over out (left_home class))
        | inr apart ↦
            elsewhere out (c, k) (base_of k new)
            (λ same. both_ways (same_class class k) apart
            (ap (same_class class) (ap (λ (h : Home). h.1) same) ∙ class_itself class))
            (left_home k)
      ]

  out_of : Gone
  out_of =
      let at = is.each c class low in
      went timers s.clock class (record { 0 = runner }) (length (base_of class old).items) may old
      at.sound
      (λ i d below. (at.all i d below).known) (λ i d below. (at.all i d below).may_go)

  pub out_known : All (λ item. item.id < timers) (drained_on s c class runner).items
  out_known = out_of.known

  pub drain_paid : Paid timers cpus levels (length (drained_on s c class runner).items) may
      (drained_on s c class runner).state
  drain_paid = record {
    after = out_of.after;
    homes =
        written_homes timers cpus levels may s is c new low is.home out_of.after (own_home out_of)
        (λ d k below other at.
        elsewhere out_of (d, k) (base_of k (bases_at s d))
        (λ same. other (ap (λ (h : Home). h.0) same)) at);
    enough = out_of.paid;
  }
