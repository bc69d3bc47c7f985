-- lists by their places, as an element is written or comes to the end
use Rattle.std.proofs.Common.{◌≡◌, ◌≢◌, ℕ, zero, suc, ◌<◌, List, [], ◌∷◌, ◌++◌, Some}
use Rattle.std.proofs.Common.{length, refl, sym, ap, ◌⊎◌, inl, inr, arith}
use Rattle.std.specs.Prelude.{slice_set}
use Rattle.std.specs.List.{slice_get}
use Rattle.std.proofs.lemmas.Option.{none-some, same_Some}

pub get_set_same : {X : Type 0} (xs : List X) (i : ℕ) (x : X) → i < length xs
    → slice_get (slice_set xs i x) i ≡ Some x
get_set_same [] i x within = absurd (omega arith)
get_set_same (y ∷ ys) zero x within = refl
get_set_same (y ∷ ys) (suc i) x within = get_set_same ys i x (omega arith)

pub get_set_other : {X : Type 0} (xs : List X) (i k : ℕ) (x : X) → k ≢ i
    → slice_get (slice_set xs i x) k ≡ slice_get xs k
get_set_other [] i k x apart = refl
get_set_other (y ∷ ys) zero zero x apart = absurd (apart refl)
get_set_other (y ∷ ys) zero (suc k) x apart = refl
get_set_other (y ∷ ys) (suc i) zero x apart = refl
get_set_other (y ∷ ys) (suc i) (suc k) x apart = get_set_other ys i k x (λ same. apart (ap suc same))

-- what stands at a place stood there, or was written there
pub get_set_is : {X : Type 0} (xs : List X) (i k : ℕ) (x found : X)
    → slice_get (slice_set xs i x) k ≡ Some found
    → ((k ≢ i) × (slice_get xs k ≡ Some found)) ⊎ ((k ≡ i) × (found ≡ x))
get_set_is [] i k x found is = absurd (none-some found is)
get_set_is (y ∷ ys) zero zero x found is = inr (refl, sym (same_Some x found is))
get_set_is (y ∷ ys) zero (suc k) x found is = inl ((λ same. cc), is)
get_set_is (y ∷ ys) (suc i) zero x found is = inl ((λ same. cc), is)
get_set_is (y ∷ ys) (suc i) (suc k) x found is =
    elim (get_set_is ys i k x found is) [
      | inl old ↦ inl ((λ same. old.0 (omega arith)), old.1)
      | inr new ↦ inr (ap suc new.0, new.1)
    ]

pub get_push_same : {X : Type 0} (xs : List X) (x : X) → slice_get (xs ++ x ∷ []) (length xs) ≡ Some x
get_push_same [] x = refl
get_push_same (y ∷ ys) x = get_push_same ys x

pub get_push_old : {X : Type 0} (xs : List X) (k : ℕ) (x found : X) → slice_get xs k ≡ Some found
    → slice_get (xs ++ x ∷ []) k ≡ Some found
get_push_old [] k x found is = absurd (none-some found is)
get_push_old (y ∷ ys) zero x found is = is
get_push_old (y ∷ ys) (suc k) x found is = get_push_old ys k x found is

pub get_push_is : {X : Type 0} (xs : List X) (k : ℕ) (x found : X)
    → slice_get (xs ++ x ∷ []) k ≡ Some found
    → (slice_get xs k ≡ Some found) ⊎ ((k ≡ length xs) × (found ≡ x))
get_push_is [] zero x found is = inr (refl, sym (same_Some x found is))
get_push_is [] (suc k) x found is = absurd (none-some found is)
get_push_is (y ∷ ys) zero x found is = inl is
get_push_is (y ∷ ys) (suc k) x found is =
    elim (get_push_is ys k x found is) [
      | inl old ↦ inl old
      | inr new ↦ inr (ap suc new.0, new.1)
    ]
