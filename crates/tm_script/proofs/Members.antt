-- numbers that rise, and the set that they are
use Rattle.std.proofs.Common.{◌≡◌, ℕ, zero, suc, ◌+◌, ◌<◌, ◌≤◌, Bool, true, false, cond, ◌||◌, eqb, List, [], ◌∷◌, Some, None, refl, sym, ap, ◌∙◌, arith, inl, inr}
use Rattle.std.specs.Prelude.{filter, nat_lt}
use Rattle.std.specs.List.{list_any, list_all, range_with_len}
use Rattle.std.specs.FinSet.{contains, from_list, contains-from_list_nat, same_set, nat_cmp-IsAntisymmetric}
use Rattle.std.specs.Ordering.{nat_cmp}
use Rattle.std.specs.Cmp.{nat_cmp_total}
use Rattle.std.proofs.lemmas.Bool.{and_parts, and_from, or_left, or_right, or_from, ltb-true, lt-ltb, cases_eq, cases_Bool, eq-eqb, eqb-true, ne_eqb, false≢true}
use Rattle.tm_base.specs.CpuSet.{Cpus, Contains}
use Rattle.tm_script.specs.Texts.{members}
use Rattle.tm_script.specs.Judge.{rise}

-- they rise, from a on
abbrev pub Rises : ℕ → List ℕ → Type 0
Rises a [] = Unit {0}
Rises a (n ∷ ns) = (a ≤ n) × Rises (n + 1) ns

after_rises : (last : ℕ) (ns : List ℕ) → rise (Some last) ns ≡ true → Rises (last + 1) ns
after_rises last [] e = tt
after_rises last (n ∷ ns) e =
    let both = and_parts _ _ e in
    (omega (arith, ltb-true last n both.0), after_rises n ns both.1)

pub rise_Rises : (ns : List ℕ) → rise None ns ≡ true → Rises 0 ns
rise_Rises [] e = tt
rise_Rises (n ∷ ns) e = (omega arith, after_rises n ns e)

rises_after : (last : ℕ) (ns : List ℕ) → Rises (last + 1) ns → rise (Some last) ns ≡ true
rises_after last [] h = refl
rises_after last (n ∷ ns) h = and_from _ _ (lt-ltb last n (omega (arith, h.0))) (rises_after n ns h.1)

pub Rises_rise : (ns : List ℕ) → Rises 0 ns → rise None ns ≡ true
Rises_rise [] h = refl
Rises_rise (n ∷ ns) h = rises_after n ns h.1

rises_lower : (a b : ℕ) (ns : List ℕ) → a ≤ b → Rises b ns → Rises a ns
rises_lower a b [] low h = tt
rises_lower a b (n ∷ ns) low h = (omega (arith, h.0), h.1)

-- whether a number is among these
abbrev pub is_among : List ℕ → ℕ → Bool
is_among ns q = list_any (λ n. eqb n q) ns

rises_absent : (a q : ℕ) (ns : List ℕ) → q < a → Rises a ns → is_among ns q ≡ false
rises_absent a q [] low h = refl
rises_absent a q (n ∷ ns) low h = or_from _ _ (ne_eqb n q (λ e. omega (arith, h.0, e))) (rises_absent (n + 1) q ns (omega (arith, h.0)) h.1)

filter_none : (xs : List ℕ) → filter (is_among []) xs ≡ []
filter_none [] = refl
filter_none (x ∷ xs) = filter_none xs

-- tests that agree from a on
filter_same : (p q : ℕ → Bool) (a n : ℕ) → ((c : ℕ) → a ≤ c → p c ≡ q c) → filter p (range_with_len a n) ≡ filter q (range_with_len a n)
filter_same p q a zero same = refl
filter_same p q a (suc n) same =
    λ i. cond (same a (omega arith) i) (a ∷ filter_same p q (a + 1) n (λ c low. same c (omega arith)) i) (filter_same p q (a + 1) n (λ c low. same c (omega arith)) i)

AllBelow : ℕ → List ℕ → Type 0
AllBelow b [] = Unit {0}
AllBelow b (n ∷ ns) = (n < b) × AllBelow b ns

-- numbers that rise are those of a range that are among them
filter_rising : (n a b : ℕ) (ns : List ℕ) → a + n ≡ b → Rises a ns → AllBelow b ns → filter (is_among ns) (range_with_len a n) ≡ ns
unfolding AllBelow
filter_rising n a b [] e h g = filter_none (range_with_len a n)
filter_rising zero a b (m ∷ ms) e h g = absurd (omega (arith, h.0, g.0))
filter_rising (suc n) a b (m ∷ ms) e h g =
    elim (cases_eq a m) [
      | inl same ↦
          let here : is_among (m ∷ ms) a ≡ true = or_left _ _ (eq-eqb m a (sym same)) in
          let others = filter_same (is_among (m ∷ ms)) (is_among ms) (a + 1) n (λ c low. ap (λ (t : Bool). t || is_among ms c) (ne_eqb m c (λ z. omega (arith, same, z)))) in
          let next : Rises (a + 1) ms = rises_lower (a + 1) (m + 1) ms (omega (arith, same)) h.1 in
          (λ i. cond (here i) (a ∷ filter (is_among (m ∷ ms)) (range_with_len (a + 1) n)) (filter (is_among (m ∷ ms)) (range_with_len (a + 1) n)))
          ∙ (λ i. same i ∷ (others ∙ filter_rising n (a + 1) b ms (omega arith) next g.1) i)
      | inr other ↦
          let above : a < m = omega (arith, h.0, other) in
          let here : is_among (m ∷ ms) a ≡ false = rises_absent (a + 1) a (m ∷ ms) (omega arith) (omega arith, h.1) in
          (λ i. cond (here i) (a ∷ filter (is_among (m ∷ ms)) (range_with_len (a + 1) n)) (filter (is_among (m ∷ ms)) (range_with_len (a + 1) n)))
          ∙ filter_rising n (a + 1) b (m ∷ ms) (omega arith) (omega arith, h.1) g
    ]

all_below : (b : ℕ) (ns : List ℕ) → list_all (λ n. nat_lt n b) ns ≡ true → AllBelow b ns
unfolding AllBelow
all_below b [] e = tt
all_below b (n ∷ ns) e = let both = and_parts _ _ e in (ltb-true n b both.0, all_below b ns both.1)

-- numbers that rise and are below n are the members of their set
pub members_found : (n : ℕ) (ns : List ℕ) → rise None ns ≡ true → list_all (λ m. nat_lt m n) ns ≡ true → members n (from_list {R = nat_cmp} ns) ≡ ns
unfolding members
members_found n ns up low =
    filter_same (contains (from_list ns)) (is_among ns) 0 n (λ c _. contains-from_list_nat ns c)
    ∙ filter_rising n 0 n ns (omega arith) (rise_Rises ns up) (all_below n ns low)

pub among_below : (n q : ℕ) (ns : List ℕ) → list_all (λ m. nat_lt m n) ns ≡ true → is_among ns q ≡ true → q < n
among_below n q [] all here = absurd (false≢true here)
among_below n q (m ∷ ms) all here =
    let both = and_parts _ _ all in
    elim (cases_Bool (eqb m q)) [
      | inl e ↦ omega (arith, eqb-true m q e, ltb-true m n both.0)
      | inr e ↦ among_below n q ms both.1 (ap (λ (t : Bool). t || is_among ms q) (sym e) ∙ here)
    ]

-- ---- the members of a set

filter_rises : (p : ℕ → Bool) (a n : ℕ) → Rises a (filter p (range_with_len a n))
filter_rises p a zero = tt
filter_rises p a (suc n) =
    let rest = filter_rises p (a + 1) n in
    elim (p a) as (λ t. Rises a (cond t (a ∷ filter p (range_with_len (a + 1) n)) (filter p (range_with_len (a + 1) n)))) [
      | true ↦ (omega arith, rest)
      | false ↦ rises_lower a (a + 1) _ (omega arith) rest
    ]

pub members_rise : (n : ℕ) (cpus : Cpus) → rise None (members n cpus) ≡ true
unfolding members
members_rise n cpus = Rises_rise _ (filter_rises (contains cpus) 0 n)

filter_below : (p : ℕ → Bool) (a n b : ℕ) → a + n ≤ b → list_all (λ m. nat_lt m b) (filter p (range_with_len a n)) ≡ true
filter_below p a zero b low = refl
filter_below p a (suc n) b low =
    let rest = filter_below p (a + 1) n b (omega arith) in
    elim (p a) as (λ t. list_all (λ m. nat_lt m b) (cond t (a ∷ filter p (range_with_len (a + 1) n)) (filter p (range_with_len (a + 1) n))) ≡ true) [
      | true ↦ and_from _ _ (lt-ltb a b (omega arith)) rest
      | false ↦ rest
    ]

pub members_below : (n : ℕ) (cpus : Cpus) → list_all (λ m. nat_lt m n) (members n cpus) ≡ true
unfolding members
members_below n cpus = filter_below (contains cpus) 0 n n (omega arith)

filter_absent : (p : ℕ → Bool) (xs : List ℕ) (q : ℕ) → p q ≡ false → is_among (filter p xs) q ≡ false
filter_absent p [] q out = refl
filter_absent p (x ∷ xs) q out =
    elim (cases_Bool (p x)) [
      | inl e ↦ ap (λ (t : Bool). is_among (cond t (x ∷ filter p xs) (filter p xs)) q) e ∙ or_from _ _ (ne_eqb x q (λ same. false≢true (sym out ∙ ap p (sym same) ∙ e))) (filter_absent p xs q out)
      | inr e ↦ ap (λ (t : Bool). is_among (cond t (x ∷ filter p xs) (filter p xs)) q) e ∙ filter_absent p xs q out
    ]

filter_there : (p : ℕ → Bool) (a n q : ℕ) → a ≤ q → q < a + n → p q ≡ true → is_among (filter p (range_with_len a n)) q ≡ true
filter_there p a zero q low high here = absurd (omega arith)
filter_there p a (suc n) q low high here =
    let xs = range_with_len (a + 1) n in
    elim (cases_eq a q) [
      | inl same ↦ ap (λ (t : Bool). is_among (cond t (a ∷ filter p xs) (filter p xs)) q) (ap p same ∙ here) ∙ or_left _ _ (eq-eqb a q same)
      | inr other ↦
          let rest = filter_there p (a + 1) n q (omega arith) (omega arith) here in
          elim (p a) as (λ t. is_among (cond t (a ∷ filter p xs) (filter p xs)) q ≡ true) [
            | true ↦ or_right _ _ rest
            | false ↦ rest
          ]
    ]

-- a set within n is that of its members
pub members_again : (n : ℕ) (cpus : Cpus) → ((c : ℕ) → Contains cpus c → c < n) → (q : ℕ) → is_among (members n cpus) q ≡ contains cpus q
unfolding members
members_again n cpus inside q =
    elim (cases_Bool (contains cpus q)) [
      | inl e ↦ filter_there (contains cpus) 0 n q (omega arith) (omega (arith, inside q e)) e ∙ sym e
      | inr e ↦ filter_absent (contains cpus) (range_with_len 0 n) q e ∙ sym e
    ]

pub members_set : (n : ℕ) (cpus : Cpus) → ((c : ℕ) → Contains cpus c → c < n) → from_list {R = nat_cmp} (members n cpus) ≡ cpus
members_set n cpus inside = same_set nat_cmp_total nat_cmp-IsAntisymmetric _ _ (λ q. contains-from_list_nat (members n cpus) q ∙ members_again n cpus inside q)
