-- lines by their numbers
use Rattle.std.proofs.Common.{◌≡◌, ℕ, zero, suc, ◌+◌, ◌<◌, List, [], ◌∷◌, Some, None}
use Rattle.std.proofs.Common.{drop, refl, sym, ap, ◌∙◌, arith}
use Rattle.std.specs.Prelude.{slice_get}
use Rattle.std.proofs.lemmas.List.{drop-drop}

-- behind the last line there is none
pub none_behind : (xs : List (List ℕ)) (i n : ℕ) (x : List ℕ) → x ∷ [] ≡ drop i xs → i < n →
    None ≡ slice_get xs n
none_behind [] i n x is low = refl
none_behind (y ∷ ys) zero zero x is low = absurd (omega (arith, low))
none_behind (y ∷ ys) zero (suc n) x is low =
    ap (λ (zs : List (List ℕ)). slice_get zs n) (ap (drop 1) is)
none_behind (y ∷ ys) (suc i) zero x is low = absurd (omega (arith, low))
none_behind (y ∷ ys) (suc i) (suc n) x is low = none_behind ys i n x is (omega (arith, low))

pub line_behind : (xs : List (List ℕ)) (i : ℕ) (x : List ℕ) (rest : List (List ℕ)) →
    x ∷ rest ≡ drop i xs → rest ≡ drop (i + 1) xs
line_behind xs i x rest is = ap (drop 1) is ∙ drop-drop 1 i xs

get_dropped : (xs : List (List ℕ)) (i : ℕ) → slice_get (drop i xs) 0 ≡ slice_get xs i
get_dropped xs zero = refl
get_dropped [] (suc i) = refl
get_dropped (x ∷ xs) (suc i) = get_dropped xs i

pub line_there : (xs ys : List (List ℕ)) (i n : ℕ) (x : List ℕ) → slice_get ys 0 ≡ Some x →
    ys ≡ drop i xs → i ≡ n → Some x ≡ slice_get xs n
line_there xs ys i n x first is same =
    sym first
    ∙ (ap (λ (zs : List (List ℕ)). slice_get zs 0) is
    ∙ (get_dropped xs i ∙ ap (λ (m : ℕ). slice_get xs m) same))
