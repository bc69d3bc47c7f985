-- how many of the numbers from one on pass a test
use Rattle.std.proofs.Common.{◌≡◌, ◌≢◌, ℕ, zero, suc, ◌+◌, ◌<◌, ◌≤◌, Bool, true, false, refl}
use Rattle.std.proofs.Common.{sym, ap, ◌∙◌, arith, inl, inr}
use Rattle.std.specs.Prelude.{◌==◌, ◌&&◌, ◌||◌, not, count_by}
use Rattle.std.specs.List.{range_with_len}
use Rattle.std.proofs.Math.Bool.{and-false, and-true, or-false, or-true}
use Rattle.std.proofs.lemmas.Bool.{cases_Bool, cases_eq, eq-eqb, ne_eqb}
use Rattle.std.proofs.lemmas.List.FromFn.{length-range_with_len}
use Rattle.std.proofs.lemmas.List.Sums.{count_by-le-length, sum_by-cons}
use Rattle.core_state.specs.Tally.{one_if}

abbrev count_from : (ℕ → Bool) → (a n : ℕ) → ℕ
count_from p a n = count_by p (range_with_len a n)

count_split : (p : ℕ → Bool) (a n : ℕ) → count_from p a (suc n) ≡ one_if (p a) + count_from p (a + 1) n
count_split p a n = sum_by-cons (λ d. one_if (p d)) a (range_with_len (a + 1) n)

-- one more at the end
one_more_counted : (p : ℕ → Bool) (a n : ℕ)
    → count_from p a (suc n) ≡ count_from p a n + one_if (p (a + n))
one_more_counted p a zero =
    let at : a ≡ a + 0 = omega arith in
    ap (λ d. 0 + one_if (p d)) at
one_more_counted p a (suc n) =
    let first = count_split p a (suc n) in
    let again = count_split p a n in
    let rest = one_more_counted p (a + 1) n in
    let at : a + 1 + n ≡ a + suc n = omega arith in
    let last = ap (λ d. one_if (p d)) at in
    omega (arith, first, again, rest, last)

pub last_counted : (p : ℕ → Bool) (n : ℕ)
    → count_from p 0 (n + 1) ≡ count_from p 0 n + one_if (p n)
last_counted p n =
    let next : n + 1 ≡ suc n = omega arith in
    let at : 0 + n ≡ n = omega arith in
    ap (count_from p 0) next
    ∙ (one_more_counted p 0 n ∙ ap (λ d. count_from p 0 n + one_if (p d)) at)

-- tests that agree
alike : (p q : ℕ → Bool) (a n : ℕ) → ((d : ℕ) → a ≤ d → q d ≡ p d)
    → count_from q a n ≡ count_from p a n
alike p q a zero same = refl
alike p q a (suc n) same =
    let here = ap one_if (same a (omega arith)) in
    let first = count_split p a n in
    let again = count_split q a n in
    let rest = alike p q (a + 1) n (λ d high. same d (omega (arith, high))) in
    omega (arith, here, first, again, rest)

-- tests that agree but for one number
pub but_for : (p q : ℕ → Bool) (c a n : ℕ) → ((d : ℕ) → d ≢ c → q d ≡ p d) → a ≤ c → c < a + n
    → count_from q a n + one_if (p c) ≡ count_from p a n + one_if (q c)
but_for p q c a zero same low high = absurd (omega (arith, low, high))
but_for p q c a (suc n) same low high =
    let first = count_split p a n in
    let again = count_split q a n in
    elim (cases_eq a c) [
      | inl is ↦
          let rest = alike p q (a + 1) n
          (λ d past. same d (λ e. absurd (omega (arith, e, is, past)))) in
          let at = ap (λ d. one_if (p d)) is in
          let to = ap (λ d. one_if (q d)) is in
          omega (arith, first, again, rest, at, to)
      | inr apart ↦
          let rest =
          but_for p q c (a + 1) n same (omega (arith, low, apart)) (omega (arith, high)) in
          let here = ap one_if (same a apart) in
          omega (arith, first, again, rest, here)
    ]

-- the test without one number, and with it
abbrev pub without : (ℕ → Bool) → (c d : ℕ) → Bool
without p c d = p d && not (d == c)

abbrev with_it : (ℕ → Bool) → (c d : ℕ) → Bool
with_it p c d = p d || d == c

pub without_here : (p : ℕ → Bool) (c : ℕ) → without p c c ≡ false
without_here p c = ap (λ b. p c && not b) (eq-eqb c c refl) ∙ and-false (p c)

pub without_there : (p : ℕ → Bool) (c d : ℕ) → d ≢ c → without p c d ≡ p d
without_there p c d apart = ap (λ b. p d && not b) (ne_eqb d c apart) ∙ and-true (p d)

pub few : (p : ℕ → Bool) (a n : ℕ) → count_from p a n ≤ n
few p a n =
    let most = count_by-le-length p (range_with_len a n) in
    let len = length-range_with_len a n in
    omega (arith, most, len)

pub count_rest : (p : ℕ → Bool) (c a n : ℕ) → a ≤ c → c < a + n
    → count_from p a n ≡ one_if (p c) + count_from (without p c) a n
count_rest p c a n low high =
    let parts = but_for p (without p c) c a n (λ d. without_there p c d) low high in
    let here = ap one_if (without_here p c) in
    omega (arith, parts, here)

pub room_for : (p : ℕ → Bool) (c a n : ℕ) → a ≤ c → c < a + n → count_from (without p c) a n < n
room_for p c a n low high =
    let parts = but_for (without p c) (with_it p c) c a n
    (λ d apart.
    ap (λ b. p d || b) (ne_eqb d c apart)
    ∙ (or-false (p d) ∙ sym (without_there p c d apart)))
    low high in
    let here = ap one_if (without_here p c) in
    let there = ap one_if (ap (λ b. p c || b) (eq-eqb c c refl) ∙ or-true (p c)) in
    let most = few (with_it p c) a n in
    omega (arith, parts, here, there, most)

pub same_rest : (p q : ℕ → Bool) (c a n : ℕ) → ((d : ℕ) → d ≢ c → q d ≡ p d)
    → count_from (without q c) a n ≡ count_from (without p c) a n
same_rest p q c a n same = ap (λ t. count_from t a n) (λ i d. rest d i) where
  rest : (d : ℕ) → without q c d ≡ without p c d
  rest d = elim (cases_eq d c) [
    | inl is ↦
        ap (without q c) is
        ∙ (without_here q c ∙ (sym (without_here p c) ∙ ap (without p c) (sym is)))
    | inr apart ↦ without_there q c d apart ∙ (same d apart ∙ sym (without_there p c d apart))
  ]

-- where some are counted, one is there
pub one_there : (p : ℕ → Bool) (a n : ℕ) → 0 < count_from p a n
    → (d : ℕ) × (d < a + n) × (p d ≡ true)
one_there p a zero some = absurd (omega (arith, some))
one_there p a (suc n) some = elim (cases_Bool (p a)) [
  | inl is ↦ (a, omega arith, is)
  | inr other ↦
      let first = count_split p a n in
      let here = ap one_if other in
      let (d, low, is) = one_there p (a + 1) n (omega (arith, some, first, here)) in
      (d, omega (arith, low), is)
]

-- and one that is there is counted
pub some_counted : (p : ℕ → Bool) (n d : ℕ) → d < n → p d ≡ true → 0 < count_from p 0 n
some_counted p n d low is =
    let parts = count_rest p d 0 n (omega arith) (omega (arith, low)) in
    let here = ap one_if is in
    omega (arith, parts, here)
