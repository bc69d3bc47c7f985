-- one timer or CPU more at the start, and what stands behind the script
use Rattle.std.proofs.Common.{◌≡◌, ℕ, ◌+◌, ◌-◌, ◌≤◌, List, [], ◌∷◌, ◌++◌, map, sym, ◌∙◌, arith}
use Rattle.std.proofs.Common.{take, drop, length}
use Rattle.std.proofs.lemmas.List.{length-drop, take_all}
use Rattle.std.specs.List.{range_with_len}
use Rattle.std.proofs.lemmas.List.FromFn.{map-range_with_len_more}

pub one_more : {X : Type 0} (f : ℕ → X) (i : ℕ) (xs ys : List X) (x : X)
    → xs ≡ map f (range_with_len 0 i) → x ≡ f i → ys ≡ xs ++ x ∷ []
    → ys ≡ map f (range_with_len 0 (i + 1))
one_more f i xs ys x was is more =
    more ∙ (λ k. was k ++ is k ∷ []) ∙ sym (map-range_with_len_more f 0 i i (omega arith))

pub rest_whole : (i : ℕ) (l : List ℕ) → take (length l - i) (drop i l) ≡ drop i l
rest_whole i l =
    let same : length (drop i l) ≡ length l - i = length-drop i l in
    let within : length (drop i l) ≤ length l - i = omega arith in
    take_all (length l - i) (drop i l) within
