-- for crates above: tests, searches and leasts over the CPUs' numbers
use Rattle.std.proofs.Common.{◌≡◌, ℕ, zero, suc, ◌+◌, ◌<◌, ◌≤◌, List, [], ◌∷◌, Bool, true, false}
use Rattle.std.proofs.Common.{Some, None, refl, sym, ap, ◌∙◌, arith, inl, inr, min, ⊎_elim}
use Rattle.std.specs.Prelude.{filter, find, nat_eq, ◌==◌, ◌||◌}
use Rattle.std.specs.List.{fold, list_any, range_with_len}
use Rattle.std.specs.Ordering.{nat_cmp}
use Rattle.std.specs.FinSet.{contains, contains-from_list_nat, from_list}
use Rattle.std.proofs.lemmas.Bool.{cases_Bool, cases_eq, eq-eqb, eqb-true, false≢true, or_cases}
use Rattle.std.proofs.lemmas.Bool.{or_left, or_right}
use Rattle.std.proofs.lemmas.Option.{none-some, same_Some}

-- one of n numbers from a on passes
pub any_here : (p : ℕ → Bool) (a n d : ℕ) → a ≤ d → d < a + n → p d ≡ true
    → list_any p (range_with_len a n) ≡ true
any_here p a zero d from below is = absurd (omega arith)
any_here p a (suc n) d from below is =
    elim (cases_eq a d) [
      | inl same ↦ or_left (p a) (list_any p (range_with_len (a + 1) n)) (ap p same ∙ is)
      | inr other ↦
          or_right (p a) (list_any p (range_with_len (a + 1) n))
          (any_here p (a + 1) n d (omega arith) (omega arith) is)
    ]

pub record PassesFrom (p : ℕ → Bool) (a n : ℕ) : Type 0 where
  pub number : ℕ
  pub from : a ≤ number
  pub below : number < a + n
  pub passes : p number ≡ true

one_later : (p : ℕ → Bool) (a n : ℕ) → PassesFrom p (a + 1) n → PassesFrom p a (suc n)
one_later p a n later =
    record {
      number = later.number;
      from = omega (arith, later.from);
      below = omega (arith, later.below);
      passes = later.passes;
    }

first_one : (p : ℕ → Bool) (a n : ℕ) → p a ≡ true → PassesFrom p a (suc n)
first_one p a n is = record { number = a; from = omega arith; below = omega arith; passes = is }

pub some_there : (p : ℕ → Bool) (a n : ℕ) → list_any p (range_with_len a n) ≡ true
    → PassesFrom p a n
some_there p a zero is = absurd (false≢true is)
some_there p a (suc n) is =
    ⊎_elim (first_one p a n) (λ later. one_later p a n (some_there p (a + 1) n later))
    (or_cases (p a) (list_any p (range_with_len (a + 1) n)) is)

-- what is found passes
pub record IsFound (p : ℕ → Bool) (a n d : ℕ) : Type 0 where
  pub below : d < a + n
  pub passes : p d ≡ true

pub found_there : (p : ℕ → Bool) (a n d : ℕ) → find p (range_with_len a n) ≡ Some d
    → IsFound p a n d
found_there p a zero d is = absurd (none-some d is)
found_there p a (suc n) d is =
    elim (cases_Bool (p a)) [
      | inl here ↦
          let at : Some a ≡ Some d = rw here at is in
          let same : a ≡ d = same_Some a d at in
          record { below = omega (arith, same); passes = ap p (sym same) ∙ here }
      | inr other ↦
          let later : find p (range_with_len (a + 1) n) ≡ Some d = rw other at is in
          let found = found_there p (a + 1) n d later in
          record { below = omega (arith, found.below); passes = found.passes }
    ]

-- where one passes one is found
pub found_some : (p : ℕ → Bool) (a n d : ℕ) → a ≤ d → d < a + n → p d ≡ true
    → find p (range_with_len a n) ≡ None → ⊥
found_some p a zero d from below is none = omega arith
found_some p a (suc n) d from below is none =
    elim (cases_Bool (p a)) [
      | inl here ↦ let no : Some a ≡ None = rw here at none in none-some a (sym no)
      | inr other ↦
          let rest : find p (range_with_len (a + 1) n) ≡ None = rw other at none in
          elim (cases_eq a d) [
            | inl same ↦ let no : true ≡ false = sym is ∙ ap p (sym same) ∙ other in
                false≢true (sym no)
            | inr apart ↦ found_some p (a + 1) n d (omega arith) (omega arith) is rest
          ]
    ]

-- a member of a set of those that pass
pub some_kept : (p q : ℕ → Bool) (xs : List ℕ) → list_any q (filter p xs) ≡ true
    → (x : ℕ) × (p x ≡ true) × (q x ≡ true)
some_kept p q [] is = absurd (false≢true is)
some_kept p q (x ∷ xs) is =
    elim (cases_Bool (p x)) [
      | inl here ↦
          let at : (q x || list_any q (filter p xs)) ≡ true = rw here at is in
          elim (or_cases (q x) (list_any q (filter p xs)) at) [
            | inl this ↦ (x, here, this)
            | inr later ↦ some_kept p q xs later
          ]
      | inr other ↦ let at : list_any q (filter p xs) ≡ true = rw other at is in some_kept p q xs at
    ]

pub member_passes : (p : ℕ → Bool) (xs : List ℕ) (d : ℕ)
    → contains (from_list {R = nat_cmp} (filter p xs)) d ≡ true → p d ≡ true
member_passes p xs d is =
    let any : list_any (λ y. nat_eq y d) (filter p xs) ≡ true =
    sym (contains-from_list_nat (filter p xs) d) ∙ is in
    let found = some_kept p (λ y. nat_eq y d) xs any in
    ap p (sym (eqb-true found.0 d found.2)) ∙ found.1

-- THE LEAST of what some numbers have
module _ (h : ℕ → ℕ) where
  abbrev pub least_of : (z : ℕ) → List ℕ → ℕ
  least_of z xs = fold (λ least c. min least (h c)) z xs

  pub least_low : (z : ℕ) (xs : List ℕ) → least_of z xs ≤ z
  least_low z [] = omega arith
  least_low z (x ∷ xs) = let rest = least_low (min z (h x)) xs in omega (arith, rest)

  pub least_below : (z : ℕ) (xs : List ℕ) (d : ℕ) → list_any (λ x. x == d) xs ≡ true
      → least_of z xs ≤ h d
  least_below z [] d is = absurd (false≢true is)
  least_below z (x ∷ xs) d is =
      elim (or_cases (x == d) (list_any (λ y. y == d) xs) is) [
        | inl here ↦
            let same : h x ≡ h d = ap h (eqb-true x d here) in
            let rest = least_low (min z (h x)) xs in omega (arith, rest, same)
        | inr later ↦ least_below (min z (h x)) xs d later
      ]

  pub least_above : (m z : ℕ) (xs : List ℕ) → m ≤ z
      → ((d : ℕ) → list_any (λ x. x == d) xs ≡ true → m ≤ h d)
      → m ≤ least_of z xs
  least_above m z [] low each = low
  least_above m z (x ∷ xs) low each =
      let here : m ≤ h x = each x
      (or_left (x == x) (list_any (λ y. y == x) xs) (eq-eqb x x refl)) in
      least_above m (min z (h x)) xs (omega (arith, low, here))
      (λ d is. each d (or_right (x == d) (list_any (λ y. y == d) xs) is))

-- members of a range, and of those of it that pass
pub in_range : (n d : ℕ) → d < n → list_any (λ x. x == d) (range_with_len 0 n) ≡ true
in_range n d low = any_here (λ x. x == d) 0 n d (omega arith) (omega arith) (eq-eqb d d refl)

pub range_low : (n d : ℕ) → list_any (λ x. x == d) (range_with_len 0 n) ≡ true → d < n
range_low n d is =
    let at = some_there (λ x. x == d) 0 n is in
    let same = eqb-true at.number d at.passes in omega (arith, at.below, same)

pub filter_member : (p : ℕ → Bool) (xs : List ℕ) (d : ℕ) → list_any (λ x. x == d) xs ≡ true
    → p d ≡ true
    → list_any (λ x. x == d) (filter p xs) ≡ true
filter_member p [] d is passes = absurd (false≢true is)
filter_member p (x ∷ xs) d is passes =
    elim (or_cases (x == d) (list_any (λ y. y == d) xs) is) [
      | inl here ↦
          let at : p x ≡ true = ap p (eqb-true x d here) ∙ passes in
          rw at (or_left (x == d) (list_any (λ y. y == d) (filter p xs)) here)
      | inr later ↦
          let rest = filter_member p xs d later passes in
          elim (cases_Bool (p x)) [
            | inl at ↦ rw at (or_right (x == d) (list_any (λ y. y == d) (filter p xs)) rest)
            | inr out ↦ rw out rest
          ]
    ]

pub member_was : (p : ℕ → Bool) (xs : List ℕ) (d : ℕ) → list_any (λ x. x == d) (filter p xs) ≡ true
    → list_any (λ x. x == d) xs ≡ true
member_was p [] d is = absurd (false≢true is)
member_was p (x ∷ xs) d is =
    elim (cases_Bool (p x)) [
      | inl at ↦
          let all : ((x == d) || list_any (λ y. y == d) (filter p xs)) ≡ true = rw at at is in
          elim (or_cases (x == d) (list_any (λ y. y == d) (filter p xs)) all) [
            | inl here ↦ or_left (x == d) (list_any (λ y. y == d) xs) here
            | inr later ↦ or_right (x == d) (list_any (λ y. y == d) xs) (member_was p xs d later)
          ]
      | inr out ↦
          let rest : list_any (λ y. y == d) (filter p xs) ≡ true = rw out at is in
          or_right (x == d) (list_any (λ y. y == d) xs) (member_was p xs d rest)
    ]
