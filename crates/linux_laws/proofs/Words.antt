-- lawful words, and exchanges that follow
use Rattle.std.proofs.Common.{◌≡◌, ◌≢◌, ℕ, zero, suc, ◌^◌, ◌<◌, Bool, true, false, true≢false}
use Rattle.std.proofs.Common.{Option, Some, None, refl, sym, ap, ◌∙◌, subst, arith, inl, inr}
use Rattle.std.specs.Prelude.{◌==◌, ◌&&◌, is_some, nat_lt}
use Rattle.std.specs.Int.{bit_at}
use Rattle.std.proofs.lemmas.Bool.{cases_Bool, cases_eq, cases_lt, cond-true, cond-false, eq-eqb}
use Rattle.std.proofs.lemmas.Bool.{eqb-true, lt-ltb}
use Rattle.std.proofs.lemmas.Nat.Bits.{bit_at_above, bit_at-lt, same_from_bits}
use Rattle.group_word.specs.Group.{GroupLaw, IsActive}
use Rattle.group_word.specs.State.{activated_state, migrator_bits, migrator_without, swapped_state}
use Rattle.group_word.specs.State.{without_child}
use Rattle.group_word.specs.declared.state.GroupState.{GroupState}
use Rattle.group_word.proofs.Children.{law_none}
use Rattle.core_facts.proofs.core_laws.Edges.Sets.{joined_law, left_gone, left_keeps, left_law}
use Rattle.core_facts.proofs.core_laws.Edges.Sets.{left_small, left_was, set_small}
use Rattle.walk_rules.specs.Scene.{Group}
use Rattle.walk_rules.specs.Stages.{joined_by, left_by}
use Rattle.linux_lines.specs.declared.events.Place.{Place}
use Rattle.linux_lines.specs.declared.events.Exchange.{Exchange}
use Rattle.linux_seen.specs.Words.{exchanged, follows, follows_by, named_by, same_number}
use Rattle.linux_seen.specs.Words.{same_state, state_led, state_of, word_after}
use Rattle.linux_laws.specs.Alarms.{line_of_exchange, shown}

-- ---- a lawful word

-- the state that a group shows
abbrev state_in : ℕ → Option ℕ → GroupState
state_in active migrator = record { active = active; migrator = migrator; seq = 0 }

-- a lawful group
pub record Lawful (x : Group) : Type 0 where
  pub law : GroupLaw x.active x.migrator
  pub eight : x.active < 2 ^ 8

led_by : (active k : ℕ) → IsActive active k → state_led k active ≡ Some (state_in active (Some k))
led_by active k law = cond-true (bit_at active k == 1) (Some (state_in active (Some k))) None (eq-eqb (bit_at active k) 1 law)

led : (active k : ℕ) → k < 8 → IsActive active k → state_of (record { active = active; migrator = 2 ^ k }) ≡ Some (state_in active (Some k))
unfolding state_of named_by
led active zero low law = led_by active 0 law
led active (suc zero) low law = led_by active 1 law
led active (suc (suc zero)) low law = led_by active 2 law
led active (suc (suc (suc zero))) low law = led_by active 3 law
led active (suc (suc (suc (suc zero)))) low law = led_by active 4 law
led active (suc (suc (suc (suc (suc zero))))) low law = led_by active 5 law
led active (suc (suc (suc (suc (suc (suc zero)))))) low law = led_by active 6 law
led active (suc (suc (suc (suc (suc (suc (suc zero))))))) low law = led_by active 7 law
led active (suc (suc (suc (suc (suc (suc (suc (suc k)))))))) low law = absurd (omega (arith, low))

none_led : state_of (record { active = 0; migrator = 0 }) ≡ Some (state_in 0 None)
unfolding state_of
none_led = refl

pub below_eight : (active k : ℕ) → active < 2 ^ 8 → IsActive active k → k < 8
below_eight active k eight law = elim (cases_lt k 8) [
  | inl low ↦ low
  | inr high ↦ absurd (omega (arith, law, bit_at_above active 8 k eight high))
]

state_by : (active : ℕ) (m : Option ℕ) → active < 2 ^ 8 → GroupLaw active m →
    state_of (record { active = active; migrator = migrator_bits m }) ≡ Some (state_in active m)
state_by active None eight law =
    subst (λ a. state_of (record { active = a; migrator = 0 }) ≡ Some (state_in a None))
    (sym (eqb-true active 0 ((law_none active).1 law))) none_led
state_by active (Some k) eight law = led active k (below_eight active k eight law) law

pub state_shown : (x : Group) → Lawful x → state_of (shown x) ≡ Some (state_in x.active x.migrator)
state_shown x fit = state_by x.active x.migrator fit.eight fit.law

pub some_shown : (x : Group) → Lawful x → is_some (state_of (shown x)) ≡ true
some_shown x fit = ap is_some (state_shown x fit)

-- ---- an exchange

same_self : (m : Option ℕ) → same_number m m ≡ true
same_self None = refl
same_self (Some k) = eq-eqb k k refl

both_true : (a b : Bool) → a ≡ true → b ≡ true → (a && b) ≡ true
both_true a b p q = ap (λ x. x && b) p ∙ q

-- a state is the same as itself
same_as : (s t : GroupState) → s.active ≡ t.active → s.migrator ≡ t.migrator → same_state s t ≡ true
same_as s t active migrator =
    both_true (s.active == t.active) (same_number s.migrator t.migrator)
    (eq-eqb s.active t.active active)
    (subst (λ m. same_number s.migrator m ≡ true) migrator (same_self s.migrator))

follows_on : (x y : Group) (e : Exchange) → Lawful x → Lawful y → e.bit < 8 →
    word_after e ≡ shown y →
    same_state (exchanged (state_in x.active x.migrator) e) (state_in y.active y.migrator) ≡ true →
    follows (shown x) e ≡ true
unfolding follows
follows_on x y e old new low after same =
    both_true (nat_lt e.bit 8) (follows_by (state_of (shown x)) (state_of (word_after e)) e)
    (lt-ltb e.bit 8 low)
    (ap (λ o. follows_by o (state_of (word_after e)) e) (state_shown x old)
    ∙ (ap (λ o. follows_by (Some (state_in x.active x.migrator)) o e)
    (ap state_of after ∙ state_shown y new) ∙ same))

pub joined_follows : (x : Group) (k : ℕ) (place : Place) (parent : ℕ) → Lawful x → k < 8 →
    follows (shown x) (line_of_exchange place parent k true (joined_by x k)) ≡ true
joined_follows x k place parent old low =
    follows_on x (joined_by x k) (line_of_exchange place parent k true (joined_by x k)) old
    (record {
      law = joined_law x.active k x.migrator old.law;
      eight = set_small x.active k old.eight low;
    }) low refl
    (same_as (activated_state (state_in x.active x.migrator) k)
    (state_in (joined_by x k).active (joined_by x k).migrator) refl refl)

-- a bit that isn't set can't be taken
none_taken : (a k : ℕ) → a < 2 ^ 8 → k < 8 → (IsActive a k → ⊥) → without_child a k ≡ a
none_taken a k eight low off =
    same_from_bits (without_child a k) a (λ i. elim (cases_eq i k) [
      | inl same ↦
          let gone : IsActive (without_child a k) i → ⊥ =
          λ h. left_gone a k low (subst (λ n. IsActive (without_child a k) n) same h) in
          let was : IsActive a i → ⊥ = λ h. off (subst (λ n. IsActive a n) same h) in
          elim (cases_eq (bit_at (without_child a k) i) 1) [
            | inl one ↦ absurd (gone one)
            | inr other ↦ elim (cases_eq (bit_at a i) 1) [
              | inl one ↦ absurd (was one)
              | inr none ↦ omega (arith, bit_at-lt a i, bit_at-lt (without_child a k) i, other, none)
            ]
          ]
      | inr ne ↦
          elim (cases_eq (bit_at a i) 1) [
            | inl one ↦ left_keeps a k i eight low ne one ∙ sym one
            | inr other ↦ elim (cases_eq (bit_at (without_child a k) i) 1) [
              | inl one ↦ absurd (other (left_was a k i eight low one))
              | inr none ↦ omega (arith, bit_at-lt a i, bit_at-lt (without_child a k) i, other, none)
            ]
          ]
    ])

migrator_stays : (i k r : ℕ) → i ≢ k → migrator_without (Some i) k r ≡ Some i
migrator_stays i k r ne = elim (cases_Bool (i == k)) [
  | inl same ↦ absurd (ne (eqb-true i k same))
  | inr other ↦ cond-false (i == k) _ (Some i) other
]

kept_by : (m : Option ℕ) (a k r : ℕ) → GroupLaw a m → (IsActive a k → ⊥) → migrator_without m k r ≡ m
kept_by None a k r law off = refl
kept_by (Some i) a k r law off = elim (cases_eq i k) [
  | inl same ↦ absurd (off (subst (λ n. IsActive a n) same law))
  | inr ne ↦ migrator_stays i k r ne
]

-- a child that was found active leaves all as it was, whether its bit stands or not
stayed : (x : Group) (k : ℕ) (stands : Bool) → Lawful x → k < 8 → (bit_at x.active k == 1) ≡ stands →
    same_state (swapped_state (state_in x.active x.migrator) k stands) (state_in x.active x.migrator)
    ≡ true
stayed x k true fit low is =
    same_as (swapped_state (state_in x.active x.migrator) k true) (state_in x.active x.migrator) refl
    refl
stayed x k false fit low is =
    let off : IsActive x.active k → ⊥ =
    λ h. true≢false (sym (eq-eqb (bit_at x.active k) 1 h) ∙ is) in
    same_as (swapped_state (state_in x.active x.migrator) k false) (state_in x.active x.migrator)
    (none_taken x.active k fit.eight low off)
    (kept_by x.migrator x.active k (without_child x.active k) fit.law off)

not_one : (a k : ℕ) → k < 8 → (bit_at (without_child a k) k == 1) ≡ false
not_one a k low = elim (cases_Bool (bit_at (without_child a k) k == 1)) [
  | inl one ↦ absurd (left_gone a k low (eqb-true _ 1 one))
  | inr none ↦ none
]

left_same : (x : Group) (k : ℕ) (child_on : Bool) → Lawful x → k < 8 →
    same_state
    (swapped_state (state_in x.active x.migrator) k (bit_at (left_by child_on x k).active k == 1))
    (state_in (left_by child_on x k).active (left_by child_on x k).migrator) ≡ true
left_same x k true fit low = stayed x k (bit_at x.active k == 1) fit low refl
left_same x k false fit low =
    subst (λ (b : Bool). same_state (swapped_state (state_in x.active x.migrator) k b)
    (state_in (left_by false x k).active (left_by false x k).migrator) ≡ true)
    (sym (not_one x.active k low))
    (same_as (swapped_state (state_in x.active x.migrator) k false)
    (state_in (left_by false x k).active (left_by false x k).migrator) refl refl)

left_fit : (x : Group) (k : ℕ) (child_on : Bool) → Lawful x → k < 8 → Lawful (left_by child_on x k)
left_fit x k true fit low = fit
left_fit x k false fit low = record {
  law = left_law x.active k x.migrator fit.eight low fit.law;
  eight = left_small x.active k fit.eight;
}

pub left_follows : (x : Group) (k : ℕ) (child_on : Bool) (place : Place) (parent : ℕ) → Lawful x →
    k < 8 →
    follows (shown x) (line_of_exchange place parent k false (left_by child_on x k)) ≡ true
left_follows x k child_on place parent old low =
    follows_on x (left_by child_on x k)
    (line_of_exchange place parent k false (left_by child_on x k)) old
    (left_fit x k child_on old low) low refl (left_same x k child_on old low)
