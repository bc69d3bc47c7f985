-- for crates above: lists that others begin with, and one element more at the end
use Rattle.std.proofs.Common.{◌≡◌, ◌⊎◌, ⊎_elim, ℕ, zero, suc, ◌<◌, ◌≤◌, List, [], ◌∷◌, ◌++◌, length}
use Rattle.std.proofs.Common.{Some, refl, ap, inl, inr, arith}
use Rattle.std.specs.Prelude.{slice_get, take}
use Rattle.std.proofs.lemmas.Option.{none-some, same_Some}

module _ {X : Type 0} where
  pub get_left : (xs ys : List X) (i : ℕ) (x : X) → slice_get xs i ≡ Some x
      → slice_get (xs ++ ys) i ≡ Some x
  get_left [] ys i x e = absurd (none-some x e)
  get_left (y ∷ xs) ys zero x e = e
  get_left (y ∷ xs) ys (suc i) x e = get_left xs ys i x e

  pub get_front : (xs ys : List X) (i : ℕ) → i < length xs
      → slice_get (xs ++ ys) i ≡ slice_get xs i
  get_front [] ys i low = absurd (omega (arith, low))
  get_front (y ∷ xs) ys zero low = refl
  get_front (y ∷ xs) ys (suc i) low = get_front xs ys i (omega (arith, low))

  pub get_end : (xs : List X) (y : X) → slice_get (xs ++ y ∷ []) (length xs) ≡ Some y
  get_end [] y = refl
  get_end (x ∷ xs) y = get_end xs y

  -- what stands in the longer list stood before, or is the new one
  pub get_snoc : (xs : List X) (y : X) (i : ℕ) (x : X) → slice_get (xs ++ y ∷ []) i ≡ Some x
      → (slice_get xs i ≡ Some x) ⊎ ((i ≡ length xs) × (y ≡ x))
  get_snoc [] y zero x e = inr (refl, same_Some _ _ e)
  get_snoc [] y (suc i) x e = absurd (none-some x e)
  get_snoc (z ∷ xs) y zero x e = inl e
  get_snoc (z ∷ xs) y (suc i) x e =
      ⊎_elim (λ t. inl t) (λ (t : (i ≡ length xs) × (y ≡ x)). inr (ap suc t.0, t.1))
      (get_snoc xs y i x e)

  pub take_front : (n : ℕ) (xs ys : List X) → n ≤ length xs → take n (xs ++ ys) ≡ take n xs
  take_front zero xs ys low = refl
  take_front (suc n) [] ys low = absurd (omega (arith, low))
  take_front (suc n) (x ∷ xs) ys low =
      ap (λ l. x ∷ l) (take_front n xs ys (omega (arith, low)))
