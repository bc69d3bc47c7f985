-- in each machine that agrees with what was seen somebody answers, where the rules say so
use Rattle.std.proofs.Common.{◌≡◌, ℕ, zero, suc, ◌+◌, ◌<◌, Bool, true, false, List, [], ◌∷◌}
use Rattle.std.proofs.Common.{Option, Some, None, refl, sym, ap, ◌∙◌, subst, inl, inr}
use Rattle.std.proofs.Common.{arith, true≢false}
use Rattle.std.specs.Prelude.{◌==◌, ◌&&◌, ◌||◌, not, nat_le, nat_lt, find, is_some, if◌then◌else◌}
use Rattle.std.specs.List.{All, list_any}
use Rattle.std.proofs.lemmas.Bool.{cases_Bool, cases_lt, cond-true, cond-false, eqb-true, leb-true}
use Rattle.std.proofs.lemmas.Bool.{leb-false, ltb-false}
use Rattle.std.proofs.lemmas.List.Elements.{All-head, All-tail}
use Rattle.std.proofs.lemmas.List.Folds.{Any-from_list_any}
use Rattle.std.proofs.lemmas.Option.{none-some, same_Some}
use Rattle.coverage.specs.Coverage.{Machine, Leads, to_cpu, to_group, HasEvent, Told, Held, WakesBy}
use Rattle.coverage.specs.Coverage.{TopWakes}
use Rattle.linux_lines.specs.declared.events.TheConstants.{NO_EXPIRY}
use Rattle.linux_seen.specs.declared.seen.Word.{Word}
use Rattle.linux_seen.specs.declared.seen.GroupSeen.{GroupSeen}
use Rattle.linux_seen.specs.declared.seen.CpuSeen.{CpuSeen}
use Rattle.linux_told.specs.declared.told.TheConstants.{MOST_LEVELS}
use Rattle.linux_told.specs.declared.told.Answer.{Answer}
use Rattle.linux_told.specs.declared.told.Answer.TheVariants as who
use Rattle.linux_seen.specs.Seen.{Sight, group_at, or_else, unknown_group}
use Rattle.linux_seen.specs.Words.{named_by, same_number}
use Rattle.linux_seen.specs.Tree.{cpu_stands, group_stands}
use Rattle.linux_seen.specs.Rests.{is_awake}
use Rattle.linux_seen.specs.Rests.{known_word}
use Rattle.linux_told.specs.Told.{at_active, at_group, at_sleeping, at_top, climbed, is_by, leads}
use Rattle.linux_told.specs.Told.{leads_by, leads_from, migrator_in, wakes}
use Rattle.linux_told.specs.Agrees.{Agrees, CpuAgrees, GroupAgrees, IsToCome, there}

-- ---- tests

pub both : (a b : Bool) → (a && b) ≡ true → (a ≡ true) × (b ≡ true)
both true b is = (refl, is)
both false b is = absurd (true≢false (sym is))

neither : (a b : Bool) → (a || b) ≡ false → (a ≡ false) × (b ≡ false)
neither false b is = (refl, is)
neither true b is = absurd (true≢false is)

pub not_true : (b : Bool) → not b ≡ true → b ≡ false
not_true true is = absurd (true≢false (sym is))
not_true false is = refl

awake_is : (o : Option Bool) → is_awake o ≡ true → o ≡ Some true
awake_is None is = absurd (true≢false (sym is))
awake_is (Some b) is = ap Some is

number_is : (o : Option ℕ) (n : ℕ) → same_number o (Some n) ≡ true → o ≡ Some n
number_is None n is = absurd (true≢false (sym is))
number_is (Some k) n is = ap Some (eqb-true k n is)

pub there_is : (e : ℕ) → (e == NO_EXPIRY) ≡ false → there e ≡ Some e
there_is e is = cond-false (e == NO_EXPIRY) None (Some e) is

none_named : (w : ℕ) → (w == 0) ≡ true → named_by w ≡ None
unfolding named_by
none_named w is = ap named_by (eqb-true w 0 is)

-- ---- what is found

module _ {X : Type 0} (test : X → Bool) where
  found : (xs : List X) (x : X) → find test xs ≡ Some x → test x ≡ true
  found [] x is = absurd (none-some x is)
  found (y ∷ ys) x is = elim (cases_Bool (test y)) [
    | inl here ↦ ap test (sym (same_Some y x (sym (cond-true (test y) (Some y) (find test ys) here)
        ∙ is))) ∙ here
    | inr other ↦ found ys x (sym (cond-false (test y) (Some y) (find test ys) other) ∙ is)
  ]

  found_all : (P : X → Type 0) (xs : List X) (x : X) → All P xs → find test xs ≡ Some x → P x
  found_all P [] x all is = absurd (none-some x is)
  found_all P (y ∷ ys) x all is = elim (cases_Bool (test y)) [
    | inl here ↦ subst P (same_Some y x (sym (cond-true (test y) (Some y) (find test ys) here)
        ∙ is)) (All-head P y ys all)
    | inr other ↦ found_all P ys x (All-tail P y ys all)
        (sym (cond-false (test y) (Some y) (find test ys) other) ∙ is)
  ]

-- what an answer of the hierarchy says of a machine
abbrev pub Good : Machine → ℕ → ℕ → Answer → Type 0
Good m cpu told who.Held = Held m cpu told
Good m cpu told who.Woken = TopWakes m cpu told
Good m cpu told who.Nothing = Unit {0}
Good m cpu told who.Due = Unit {0}
Good m cpu told who.Itself = Unit {0}
Good m cpu told who.Open = Unit {0}
Good m cpu told who.Missing = Unit {0}

-- what was told is there below a level, where all groups sleep
pub record Below (m : Machine) (cpu told level : ℕ) : Type 0 where
  pub inactive : (k g : ℕ) → k < level → m.path cpu k ≡ Some g → m.migrator g ≡ None
  pub events : (k : ℕ) → k < level → HasEvent m cpu told k

module _ (m : Machine) (s : Sight) (agrees : Agrees m s) where
  group_known : (p : ℕ) (o : Option GroupSeen) → find (λ g. g.pointer == p) s.groups ≡ o →
      GroupAgrees m s.clock (or_else o (unknown_group p))
      × ((or_else o (unknown_group p)).pointer ≡ p)
  group_known p None is = (
    record {
      migrator = λ w e. absurd (none-some w e);
      above = λ c level q path e some. absurd (none-some q e);
      top = λ c level path e. absurd (none-some 0 e);
      child = λ q k e f. absurd (none-some q e);
      event = λ c level q e path f there to_come. absurd (none-some q f);
    },
    refl,
  )
  group_known p (Some g) is = (
    found_all (λ g. g.pointer == p) (GroupAgrees m s.clock) s.groups g agrees.groups is,
    eqb-true g.pointer p (found (λ g. g.pointer == p) s.groups g is),
  )

  at_pointer : (p : ℕ) → GroupAgrees m s.clock (group_at s p)
  at_pointer p = (group_known p (find (λ g. g.pointer == p) s.groups) refl).0

  its_pointer : (p : ℕ) → (group_at s p).pointer ≡ p
  its_pointer p = (group_known p (find (λ g. g.pointer == p) s.groups) refl).1

  -- ---- from a group down

  abbrev LeadsOn : ℕ → Type 0
  LeadsOn p = (runner : ℕ) × Leads m runner p

  word_led : (p k : ℕ) (o : Option Word) → known_word (group_at s p) ≡ o →
      migrator_in o ≡ Some k → m.migrator p ≡ Some k
  word_led p k None is led = absurd (none-some k led)
  word_led p k (Some w) is led =
      ap m.migrator (sym (its_pointer p)) ∙ ((at_pointer p).migrator w is ∙ led)

  by_child : (n p k : ℕ) (c : Option CpuSeen) → find (λ c. cpu_stands c p k) s.cpus ≡ c →
      (g : Option GroupSeen) → find (λ g. group_stands g p k) s.groups ≡ g →
      m.migrator p ≡ Some k → ((q : ℕ) → leads s n q ≡ true → LeadsOn q) →
      leads_from c g (leads s n) ≡ true → LeadsOn p
  by_child n p k (Some c) at g below led on is =
      let stands = both (same_number c.leaf (Some p)) (same_number c.bit (Some k))
      (found (λ c. cpu_stands c p k) s.cpus c at) in
      let has = found_all (λ c. cpu_stands c p k) (CpuAgrees m s.clock) s.cpus c agrees.cpus at in (
        c.cpu.0,
        to_cpu p k led
            (has.child p k (number_is c.leaf p stands.0) (number_is c.bit k stands.1))
            (has.active true (awake_is c.active is)),
      )
  by_child n p k None at (Some h) below led on is =
      let stands = both (same_number h.parent (Some p)) (same_number h.bit (Some k))
      (found (λ g. group_stands g p k) s.groups h below) in
      let has = found_all (λ g. group_stands g p k) (GroupAgrees m s.clock) s.groups h
      agrees.groups below in
      let low = on h.pointer is in (
        low.0,
        to_group p k h.pointer led
            (has.child p k (number_is h.parent p stands.0) (number_is h.bit k stands.1)) low.1,
      )
  by_child n p k None at None below led on is = absurd (true≢false (sym is))

  by_migrator : (n p : ℕ) (o : Option ℕ) → migrator_in (known_word (group_at s p)) ≡ o →
      ((q : ℕ) → leads s n q ≡ true → LeadsOn q) → leads_by s p o (leads s n) ≡ true → LeadsOn p
  by_migrator n p None led on is = absurd (true≢false (sym is))
  by_migrator n p (Some k) led on is =
      by_child n p k (find (λ c. cpu_stands c p k) s.cpus) refl
      (find (λ g. group_stands g p k) s.groups) refl
      (word_led p k (known_word (group_at s p)) refl led) on is

  leads_on : (n p : ℕ) → leads s n p ≡ true → LeadsOn p
  leads_on zero p is = absurd (true≢false (sym is))
  leads_on (suc n) p is =
      by_migrator n p (migrator_in (known_word (group_at s p))) refl (leads_on n) is

  -- ---- the one who wakes

  waked : (e : ℕ) (c : CpuSeen) (leaf : Option ℕ) → c.leaf ≡ leaf → (w : Option ℕ) →
      c.wakeup ≡ w → CpuAgrees m s.clock c → (is_some leaf && is_by e w) ≡ true → WakesBy m e
  waked e c None at w keeps has is = absurd (true≢false (sym is))
  waked e c (Some p) at None keeps has is = absurd (true≢false (sym is))
  waked e c (Some p) at (Some w) keeps has is =
      let parts = both (nat_le w e) (not (w == NO_EXPIRY)) is in
      record {
        waker = c.cpu.0;
        at = w;
        placed = has.placed p at;
        keeps = has.wakeup w keeps ∙ there_is w (not_true (w == NO_EXPIRY) parts.1);
        in_time = leb-true w e parts.0;
      }

  some_wakes : (e : ℕ) → list_any (wakes e) s.cpus ≡ true → WakesBy m e
  some_wakes e is =
      let at = Any-from_list_any (wakes e) s.cpus is in
      waked e at.1 at.1.leaf refl at.1.wakeup refl
      (subst (CpuAgrees m s.clock) at.3 (agrees.cpus at.0 at.1 at.2)) at.4

  -- ---- from a CPU up

  module _ (cpu told now : ℕ) (clock : s.clock ≡ Some now) where
    good_if : (b : Bool) (x y : Answer) → (b ≡ true → Good m cpu told x) →
        (b ≡ false → Good m cpu told y) →
        Good m cpu told (if b then x else y)
    good_if true x y f g = f refl
    good_if false x y f g = g refl

    good_or : (b : Bool) (x y : Option Answer) (rest : Answer) →
        (b ≡ true → Good m cpu told (or_else x rest)) →
        (b ≡ false → Good m cpu told (or_else y rest)) →
        Good m cpu told (or_else (if b then x else y) rest)
    good_or true x y rest f g = f refl
    good_or false x y rest f g = g refl

    told_to : (level : ℕ) → Below m cpu told level → HasEvent m cpu told level →
        Told m cpu told level
    told_to level below here = record {
      inactive = below.inactive;
      events = λ k most. elim (cases_lt k level) [
        | inl low ↦ below.events k low
        | inr high ↦
            let same : level ≡ k = omega (arith, most, high) in
            subst (HasEvent m cpu told) same here
      ];
    }

    one_higher : (level p : ℕ) → Below m cpu told level → HasEvent m cpu told level →
        m.path cpu level ≡ Some p → m.migrator p ≡ None → Below m cpu told (level + 1)
    one_higher level p below here path none = record {
      inactive = λ k g low at. elim (cases_lt k level) [
        | inl lower ↦ below.inactive k g lower at
        | inr high ↦
            let same : k ≡ level = omega (arith, low, high) in
            let is : Some p ≡ Some g = sym path ∙ (ap (m.path cpu) (sym same) ∙ at) in
            ap m.migrator (sym (same_Some p g is)) ∙ none
      ];
      events = λ k low. (told_to level below here).events k (omega (arith, low));
    }

    module _ (level e p : ℕ) (below : Below m cpu told level) (here : HasEvent m cpu told level)
        (path : m.path cpu level ≡ Some p) (event : m.event p (m.bit cpu level) ≡ Some e) where
      on_pointer : m.path cpu level ≡ Some (group_at s p).pointer
      on_pointer = path ∙ ap Some (sym (its_pointer p))

      held_here : leads s MOST_LEVELS p ≡ true → Held m cpu told
      held_here led =
          let on = leads_on MOST_LEVELS p led in
          record {
            level = level;
            in_group = p;
            runner = on.0;
            on_path = path;
            told = told_to level below here;
            leads = on.1;
          }

      active_here : Good m cpu told (at_active s p)
      active_here = good_if (leads s MOST_LEVELS p) who.Held who.Open held_here (λ no. tt)

      woken_here : (group_at s p).parent ≡ Some 0 → m.migrator p ≡ None →
          list_any (wakes e) s.cpus ≡ true → TopWakes m cpu told
      woken_here parent none some = record {
        level = level;
        top = p;
        expiry = e;
        on_path = path;
        is_top = (at_pointer p).top cpu level on_pointer parent;
        told = told_to level below here;
        inactive = none;
        event = event;
        wakes = some_wakes e some;
      }

      top_here : (group_at s p).parent ≡ Some 0 → m.migrator p ≡ None →
          Good m cpu told (at_top s e)
      top_here parent none =
          good_if (list_any (wakes e) s.cpus) who.Woken who.Open (woken_here parent none)
          (λ no. tt)

      sleeping_here : (rest : Answer) (q : Option ℕ) → (group_at s p).parent ≡ q →
          m.migrator p ≡ None → (Below m cpu told (level + 1) → Good m cpu told rest) →
          Good m cpu told (or_else (at_sleeping s e q) rest)
      sleeping_here rest None parent none on = tt
      sleeping_here rest (Some q) parent none on =
          good_or (q == 0) (Some (at_top s e)) None rest
          (λ is. top_here (parent ∙ ap Some (eqb-true q 0 is)) none)
          (λ is. on (one_higher level p below here path none))

      word_here : (rest : Answer) (o : Option Word) → known_word (group_at s p) ≡ o →
          (Below m cpu told (level + 1) → Good m cpu told rest) →
          Good m cpu told (or_else (at_group s e p (group_at s p) o) rest)
      word_here rest None is on = tt
      word_here rest (Some w) is on =
          good_or (w.migrator == 0) (at_sleeping s e (group_at s p).parent)
          (Some (at_active s p)) rest
          (λ asleep. sleeping_here rest (group_at s p).parent refl
          (ap m.migrator (sym (its_pointer p)) ∙ ((at_pointer p).migrator w is
          ∙ none_named w.migrator asleep)) on)
          (λ awake. active_here)

    -- the answer above a group
    abbrev above : ℕ → ℕ → Answer
    above n p = climbed s now told n (group_at s p).event (group_at s p).parent

    abbrev Path : ℕ → Option ℕ → Type 0
    Path level pointer =
        (p : ℕ) → pointer ≡ Some p → (p == 0) ≡ false → m.path cpu level ≡ Some p

    abbrev Event : ℕ → Option ℕ → Option ℕ → Type 0
    Event level event pointer =
        (p e : ℕ) → pointer ≡ Some p → event ≡ Some e → now < e → (p == 0) ≡ false →
        m.event p (m.bit cpu level) ≡ there e

    on_group : (level p : ℕ) → m.path cpu level ≡ Some p →
        m.path cpu level ≡ Some (group_at s p).pointer
    on_group level p path = path ∙ ap Some (sym (its_pointer p))

    step : (n level e p : ℕ) → Below m cpu told level → m.path cpu level ≡ Some p →
        m.event p (m.bit cpu level) ≡ there e →
        (nat_lt told e ≡ false) × ((e == NO_EXPIRY) ≡ false) →
        (Below m cpu told (level + 1) → Path (level + 1) (group_at s p).parent →
        Event (level + 1) (group_at s p).event (group_at s p).parent →
        Good m cpu told (climbed s now told n (group_at s p).event (group_at s p).parent)) →
        Good m cpu told (or_else (at_group s e p (group_at s p) (known_word (group_at s p)))
        (above n p))
    step n level e p below path has times on =
        let event : m.event p (m.bit cpu level) ≡ Some e = has ∙ there_is e times.1 in
        let here : HasEvent m cpu told level = record {
          in_group = p;
          expiry = e;
          on_path = path;
          there = event;
          in_time = ltb-false told e times.0;
        } in
        word_here level e p below here path event
        (climbed s now told n (group_at s p).event (group_at s p).parent)
        (known_word (group_at s p)) refl (λ higher. on higher
        (λ q parent some. (at_pointer p).above cpu level q (on_group level p path) parent some)
        (λ q f parent known later some. (at_pointer p).event cpu level q f
        (on_group level p path) parent known
        (subst (λ (k : Option ℕ). IsToCome k f) (sym clock) later)))

    pub climb : (n level : ℕ) (event pointer : Option ℕ) → Below m cpu told level →
        Path level pointer → Event level event pointer →
        Good m cpu told (climbed s now told n event pointer)
    climb zero level event pointer below path has = tt
    climb (suc n) level None pointer below path has = tt
    climb (suc n) level (Some e) None below path has = tt
    climb (suc n) level (Some e) (Some p) below path has =
        good_or (p == 0 || nat_le e now) (Some who.Open)
        (if nat_lt told e || e == NO_EXPIRY then Some who.Missing
        else at_group s e p (group_at s p) (known_word (group_at s p))) (above n p) (λ no. tt)
        (λ first. good_or (nat_lt told e || e == NO_EXPIRY) (Some who.Missing)
        (at_group s e p (group_at s p) (known_word (group_at s p))) (above n p) (λ no. tt)
        (λ second. step n level e p below (path p refl (neither (p == 0) (nat_le e now) first).0)
        (has p e refl refl (leb-false e now (neither (p == 0) (nat_le e now) first).1)
        (neither (p == 0) (nat_le e now) first).0)
        (neither (nat_lt told e) (e == NO_EXPIRY) second)
        (climb n (level + 1) (group_at s p).event (group_at s p).parent)))
