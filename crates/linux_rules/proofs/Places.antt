-- the first element that passes, and what is left without it, by its place
use Rattle.std.proofs.Common.{◌≡◌, ℕ, zero, suc, ◌<◌, Bool, true, false, List, [], ◌∷◌}
use Rattle.std.proofs.Common.{Some, None, refl, sym, ◌∙◌, ap, subst}
use Rattle.std.proofs.Common.{◌+◌, arith}
use Rattle.std.proofs.lemmas.Bool.Decides.{nat_tests}
use Rattle.std.specs.Prelude.{length, find, position, get_or, nat_lt, cond}
use Rattle.std.proofs.lemmas.Option.{none-some}
use Rattle.std.proofs.lemmas.List.Quantifiers.{position-Some}
use Rattle.std.proofs.lemmas.List.Recursion.{is_position_or_len}
use Rattle.std.specs.List.{position_or_len, remove}
use Rattle.std.specs.Set.{remove_key}

module _ {X : Type 0} (p : X → Bool) where
  found_at : (xs : List X) (i : ℕ) (d : X) → i < length xs → p (get_or xs i d) ≡ true →
      ((k : ℕ) → k < i → p (get_or xs k d) ≡ false) →
      (find p xs ≡ Some (get_or xs i d)) × (remove_key p xs ≡ remove xs i)
  found_at [] i d within passes before = absurd (omega (arith, within))
  found_at (x ∷ xs) zero d within passes before = (
    ap (λ b. cond b (Some x) (find p xs)) passes,
    ap (λ b. cond b xs (x ∷ remove_key p xs)) passes,
  )
  found_at (x ∷ xs) (suc i) d within passes before =
      let rest = found_at xs i d (omega (arith, within)) passes
      (λ k below. before (suc k) (omega (arith, below))) in
      let here = before 0 (omega arith) in (
        ap (λ b. cond b (Some x) (find p xs)) here ∙ rest.0,
        ap (λ b. cond b xs (x ∷ remove_key p xs)) here ∙ ap (λ ys. x ∷ ys) rest.1,
      )

  pub found : (xs : List X) (i : ℕ) (x : X) → position p xs ≡ Some i → x ≡ get_or xs i x →
      (Some x ≡ find p xs) × (remove xs i ≡ remove_key p xs)
  found xs i x is at =
      let there = position-Some p xs i x is in
      let both = found_at xs i x there.0 there.1 there.2 in
      (ap (λ y. Some y) at ∙ sym both.0, sym both.1)

  -- the place of the first that passes, or the length
  abbrev first : List X → ℕ
  first [] = 0
  first (x ∷ xs) = cond (p x) 0 (1 + first xs)

  first_is : (xs : List X) → first xs ≡ position_or_len p xs
  first_is xs = is_position_or_len first p refl (λ y ys. refl) xs

  not_below : (a b : ℕ) (t : Bool) → nat_lt a b ≡ t → cond t (Some a) None ≡ None → a < b → ⊥
  not_below a b true is none low = none-some a (sym none)
  not_below a b false is none low = absurd (grind (arith, nat_tests))

  none_by : (x : X) (xs : List X) (b : Bool) → p x ≡ b → (first (x ∷ xs) < suc (length xs) → ⊥) →
      (p x ≡ false) × (first xs < length xs → ⊥)
  none_by x xs true is out =
      absurd (out (subst (λ b. cond b 0 (1 + first xs) < suc (length xs)) (sym is) (omega arith)))
  none_by x xs false is out = (
    is,
    λ low.
        out (subst (λ b. cond b 0 (1 + first xs) < suc (length xs)) (sym is) (omega (arith, low))),
  )

  none_at : (xs : List X) → (first xs < length xs → ⊥) →
      (None ≡ find p xs) × (xs ≡ remove_key p xs)
  none_at [] out = (refl, refl)
  none_at (x ∷ xs) out =
      let here = none_by x xs (p x) refl out in
      let rest = none_at xs here.1 in (
        rest.0 ∙ sym (ap (λ b. cond b (Some x) (find p xs)) here.0),
        ap (λ ys. x ∷ ys) rest.1 ∙ sym (ap (λ b. cond b xs (x ∷ remove_key p xs)) here.0),
      )

  no_first : (xs : List X) → position p xs ≡ None → first xs < length xs → ⊥
  no_first xs is =
      not_below (first xs) (length xs) (nat_lt (first xs) (length xs)) refl
      (subst (λ n. cond (nat_lt n (length xs)) (Some n) None ≡ None) (sym (first_is xs)) is)

  pub none : (xs : List X) → position p xs ≡ None → (None ≡ find p xs) × (xs ≡ remove_key p xs)
  none xs is = none_at xs (no_first xs is)

  below_none : (xs : List X) (d : X) → (first xs < length xs → ⊥) → (k : ℕ) → k < length xs →
      p (get_or xs k d) ≡ false
  below_none [] d out k below = absurd (omega (arith, below))
  below_none (x ∷ xs) d out zero below = (none_by x xs (p x) refl out).0
  below_none (x ∷ xs) d out (suc k) below =
      below_none xs d (none_by x xs (p x) refl out).1 k (omega (arith, below))

  pub not_first : (xs : List X) (d : X) → position p xs ≡ None → (k : ℕ) → k < length xs →
      p (get_or xs k d) ≡ false
  not_first xs d is = below_none xs d (no_first xs is)
