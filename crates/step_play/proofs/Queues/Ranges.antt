-- for crates above: numbers in ascending order: whether some pass a test, the first that does, and
-- the least that they are worth
use Rattle.std.proofs.Common.{◌≡◌, ◌⊎◌, inl, inr, ℕ, zero, suc, ◌+◌, ◌<◌, ◌≤◌, cond, Bool, true}
use Rattle.std.proofs.Common.{false, List, [], ◌∷◌, Some, refl, sym, ap, ◌∙◌, arith, true≢false}
use Rattle.std.specs.Prelude.{filter, find, min}
use Rattle.std.specs.List.{fold, list_any, range_with_len}
use Rattle.std.proofs.lemmas.Bool.{cases_Bool, cases_eq, false_from_ne_true, or_cases, or_left}
use Rattle.std.proofs.lemmas.Bool.{or_right}

-- a number of a run that passes a test
pub record InRun (p : ℕ → Bool) (a n : ℕ) : Type 0 where
  pub number : ℕ
  pub from : a ≤ number
  pub within : number < a + n
  pub passes : p number ≡ true

module _ (p : ℕ → Bool) where
  pub any_at : (a n d : ℕ) → a ≤ d → d < a + n → p d ≡ true →
      list_any p (range_with_len a n) ≡ true
  any_at a zero d low high is = absurd (omega arith)
  any_at a (suc n) d low high is = elim (cases_eq a d) [
    | inl here ↦ or_left (p a) (list_any p (range_with_len (a + 1) n)) (ap p here ∙ is)
    | inr other ↦ or_right (p a) (list_any p (range_with_len (a + 1) n))
        (any_at (a + 1) n d (omega arith) (omega arith) is)
  ]

  pub any_from : (a n : ℕ) → list_any p (range_with_len a n) ≡ true → InRun p a n
  any_from a zero e = absurd (true≢false (sym e))
  any_from a (suc n) e = elim (or_cases (p a) (list_any p (range_with_len (a + 1) n)) e) [
    | inl here ↦ record { number = a; from = omega arith; within = omega arith; passes = here }
    | inr later ↦
        let at = any_from (a + 1) n later in
        let low : a + 1 ≤ at.number = at.from in
        let high : at.number < a + 1 + n = at.within in
        record {
          number = at.number;
          from = omega arith;
          within = omega arith;
          passes = at.passes;
        }
  ]

  -- the test is passed exactly where a fact holds
  pub any_is : (n : ℕ) (b : Bool) → (InRun p 0 n → b ≡ true) → (b ≡ true → InRun p 0 n) →
      b ≡ list_any p (range_with_len 0 n)
  any_is n true to from =
      let at = from refl in sym (any_at 0 n at.number at.from at.within at.passes)
  any_is n false to from =
      sym (false_from_ne_true (list_any p (range_with_len 0 n))
      (λ e. true≢false (sym (to (any_from 0 n e)))))

-- THE FIRST of those that pass one test which passes another
module _ (p q : ℕ → Bool) where
  pub found : (a n c : ℕ) → a ≤ c → c < a + n → q c ≡ true → p c ≡ true →
      ((d : ℕ) → q d ≡ true → p d ≡ true → c ≤ d) →
      find p (filter q (range_with_len a n)) ≡ Some c
  found a zero c low high in_q in_p first = absurd (omega arith)
  found a (suc n) c low high in_q in_p first =
      let rest = filter q (range_with_len (a + 1) n) in
      elim (cases_eq a c) [
        | inl here ↦
            ap (λ b. find p (cond b (a ∷ rest) rest)) (ap q here ∙ in_q)
            ∙ (ap (λ b. cond b (Some a) (find p rest)) (ap p here ∙ in_p) ∙ ap Some here)
        | inr other ↦
            let later : find p rest ≡ Some c =
            found (a + 1) n c (omega arith) (omega arith) in_q in_p first in
            elim (cases_Bool (q a)) [
              | inl qa ↦
                  let not_yet : p a ≡ false =
                  false_from_ne_true (p a) (λ pa. let far = first a qa pa in omega arith) in
                  ap (λ b. find p (cond b (a ∷ rest) rest)) qa
                  ∙ (ap (λ b. cond b (Some a) (find p rest)) not_yet ∙ later)
              | inr out ↦ ap (λ b. find p (cond b (a ∷ rest) rest)) out ∙ later
            ]
      ]

pub none_pass : (q : ℕ → Bool) (a n : ℕ) → ((d : ℕ) → a ≤ d → d < a + n → q d ≡ false) →
    filter q (range_with_len a n) ≡ []
none_pass q a zero none = refl
none_pass q a (suc n) none =
    let rest = filter q (range_with_len (a + 1) n) in
    ap (λ b. cond b (a ∷ rest) rest) (none a (omega arith) (omega arith))
    ∙ none_pass q (a + 1) n (λ d low high. none d (omega arith) (omega arith))

pub all_pass : (xs : List ℕ) → filter (λ d. true) xs ≡ xs
all_pass [] = refl
all_pass (x ∷ xs) = ap (λ ys. x ∷ ys) (all_pass xs)

-- THE LEAST
abbrev pub least_of : (ℕ → ℕ) → ℕ → List ℕ → ℕ
least_of f least xs = fold (λ least c. min least (f c)) least xs

module _ (f : ℕ → ℕ) (q : ℕ → Bool) where
  least_low : (a n least m : ℕ) → m ≤ least →
      ((d : ℕ) → a ≤ d → d < a + n → q d ≡ true → m ≤ f d) →
      m ≤ least_of f least (filter q (range_with_len a n))
  least_low a zero least m low each = low
  least_low a (suc n) least m low each =
      let rest = filter q (range_with_len (a + 1) n) in
      elim (cases_Bool (q a)) [
        | inl qa ↦
            let here : m ≤ f a = each a (omega arith) (omega arith) qa in
            let on = least_low (a + 1) n (min least (f a)) m (omega arith)
            (λ d from to is. each d (omega arith) (omega arith) is) in
            rw qa on
        | inr out ↦
            let on = least_low (a + 1) n least m low
            (λ d from to is. each d (omega arith) (omega arith) is) in
            rw out on
      ]

  least_start : (a n least : ℕ) → least_of f least (filter q (range_with_len a n)) ≤ least
  least_start a zero least = omega arith
  least_start a (suc n) least = elim (cases_Bool (q a)) [
    | inl qa ↦
        let on = least_start (a + 1) n (min least (f a)) in
        let less : least_of f (min least (f a)) (filter q (range_with_len (a + 1) n)) ≤ least =
        omega arith in
        rw qa less
    | inr out ↦ let on = least_start (a + 1) n least in rw out on
  ]

  least_at : (a n least c : ℕ) → a ≤ c → c < a + n → q c ≡ true →
      least_of f least (filter q (range_with_len a n)) ≤ f c
  least_at a zero least c low high is = absurd (omega arith)
  least_at a (suc n) least c low high is = elim (cases_eq a c) [
    | inl here ↦
        let on = least_start (a + 1) n (min least (f a)) in
        let same : f a ≡ f c = ap f here in
        let less : least_of f (min least (f a)) (filter q (range_with_len (a + 1) n)) ≤ f c =
        omega arith in
        let qa : q a ≡ true = ap q here ∙ is in
        rw qa less
    | inr other ↦ elim (cases_Bool (q a)) [
      | inl qa ↦
          let on = least_at (a + 1) n (min least (f a)) c (omega arith) (omega arith) is in rw qa on
      | inr out ↦
          let on = least_at (a + 1) n least c (omega arith) (omega arith) is in rw out on
    ]
  ]

  -- it is the greatest number that isn't above any, where it is reached
  pub least_is : (n top m : ℕ) → m ≤ top → ((d : ℕ) → d < n → q d ≡ true → m ≤ f d) →
      (m ≡ top) ⊎ ((c : ℕ) × (c < n) × (q c ≡ true) × (f c ≡ m)) →
      least_of f top (filter q (range_with_len 0 n)) ≡ m
  least_is n top m low each (inl is) =
      let least = least_low 0 n top m low (λ d from to is. each d (omega arith) is) in
      let most = least_start 0 n top in
      omega arith
  least_is n top m low each (inr at) =
      let least = least_low 0 n top m low (λ d from to is. each d (omega arith) is) in
      let most = least_at 0 n top at.0 (omega arith) (omega (arith, at.1)) at.2 in
      let is : f at.0 ≡ m = at.3 in
      omega arith
