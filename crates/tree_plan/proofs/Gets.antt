-- an element by its index, in joined lists and in ranges
use Rattle.std.proofs.Common.{◌≡◌, ℕ, zero, suc, ◌+◌, ◌<◌, ◌⊎◌, inl, inr, ⊎_elim, List, [], ◌∷◌, ◌++◌, length, map, Some, refl, sym, ◌∙◌, ap, arith, add-zero}
use Rattle.std.specs.Prelude.{slice_get}
use Rattle.std.specs.List.{range_with_len}
use Rattle.std.proofs.lemmas.List.FromFn.{length-map-range_with_len}
use Rattle.std.proofs.lemmas.Option.{none-some, same_Some}

pub get_left : {A : Type 0} (xs ys : List A) (i : ℕ) (x : A) → slice_get xs i ≡ Some x →
    slice_get (xs ++ ys) i ≡ Some x
get_left [] ys i x e = absurd (none-some x e)
get_left (y ∷ xs) ys zero x e = e
get_left (y ∷ xs) ys (suc i) x e = get_left xs ys i x e

pub get_right : {A : Type 0} (xs ys : List A) (i : ℕ) → slice_get (xs ++ ys) (length xs + i) ≡ slice_get ys i
get_right [] ys i = let at : 0 + i ≡ i = omega arith in ap (slice_get ys) at
get_right (x ∷ xs) ys i =
    let at : suc (length xs) + i ≡ suc (length xs + i) = omega arith in
    ap (slice_get (x ∷ (xs ++ ys))) at ∙ get_right xs ys i

-- an element of joined lists stands in the first or in the second
pub get_either : {A : Type 0} (xs ys : List A) (i : ℕ) (x : A) → slice_get (xs ++ ys) i ≡ Some x →
    (slice_get xs i ≡ Some x) ⊎ ((j : ℕ) × (i ≡ length xs + j) × (slice_get ys j ≡ Some x))
get_either [] ys i x e = inr (i, omega arith, e)
get_either (y ∷ xs) ys zero x e = inl e
get_either (y ∷ xs) ys (suc i) x e =
    ⊎_elim (λ here. inl here) (λ there. inr (there.0, omega (arith, there.1), there.2)) (get_either xs ys i x e)

pub get_within : {A : Type 0} (xs : List A) (i : ℕ) (x : A) → slice_get xs i ≡ Some x → i < length xs
get_within [] i x e = absurd (none-some x e)
get_within (y ∷ xs) zero x e = omega arith
get_within (y ∷ xs) (suc i) x e = omega (arith, get_within xs i x e)

pub get_some : {A : Type 0} (xs : List A) (i : ℕ) → i < length xs → (x : A) × (slice_get xs i ≡ Some x)
get_some [] i h = absurd (omega arith)
get_some (x ∷ xs) zero h = (x, refl)
get_some (x ∷ xs) (suc i) h = get_some xs i (omega arith)

pub get_range : {A : Type 0} (f : ℕ → A) (a n i : ℕ) → i < n →
    slice_get (map f (range_with_len a n)) i ≡ Some (f (a + i))
get_range f a zero i h = absurd (omega arith)
get_range f a (suc n) zero h = ap (λ k. Some (f k)) (sym (add-zero a))
get_range f a (suc n) (suc i) h = let on : a + 1 + i ≡ a + suc i = omega arith in get_range f (a + 1) n i (omega arith) ∙ ap (λ k. Some (f k)) on

-- what a range of numbers has at an index
pub from_range : {A : Type 0} (f : ℕ → A) (a n i : ℕ) (x : A) → slice_get (map f (range_with_len a n)) i ≡ Some x →
    (i < n) × (x ≡ f (a + i))
from_range f a n i x e =
    let inside : i < n = omega (arith, get_within _ i x e, length-map-range_with_len f a n) in
    (inside, same_Some _ _ (sym e ∙ get_range f a n i inside))

-- an element of a mapped list
pub get_map : {A B : Type 0} (f : A → B) (xs : List A) (i : ℕ) (x : A) → slice_get xs i ≡ Some x →
    slice_get (map f xs) i ≡ Some (f x)
get_map f [] i x e = absurd (none-some x e)
get_map f (y ∷ xs) zero x e = ap (λ z. Some (f z)) (same_Some _ _ e)
get_map f (y ∷ xs) (suc i) x e = get_map f xs i x e

pub from_map : {A B : Type 0} (f : A → B) (xs : List A) (i : ℕ) (y : B) → slice_get (map f xs) i ≡ Some y →
    (x : A) × (slice_get xs i ≡ Some x) × (y ≡ f x)
from_map f [] i y e = absurd (none-some y e)
from_map f (x ∷ xs) zero y e = (x, refl, sym (same_Some _ _ e))
from_map f (x ∷ xs) (suc i) y e = from_map f xs i y e
