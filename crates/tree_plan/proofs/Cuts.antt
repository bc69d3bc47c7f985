-- cutting a list into runs: nothing is lost, and the lengths follow from the list's length
use Rattle.std.proofs.Common.{◌≡◌, ℕ, zero, suc, ◌+◌, ◌*◌, ◌<◌, ◌≤◌, List, [], ◌∷◌, ◌++◌, length, map, take, drop, refl, sym, ◌∙◌, ap, arith, length-append, Bool, true, false, ltb, cond, subst}
use Rattle.std.specs.Prelude.{flat_map, sum, slice_get, Some}
use Rattle.std.proofs.lemmas.Option.{none-some, same_Some}
use Rattle.std.specs.List.{range_with_len}
use Rattle.std.proofs.lemmas.List.FromFn.{length-range_with_len}
use Rattle.std.proofs.lemmas.List.Concat.{flat_map-append}
use Rattle.std.proofs.lemmas.List.Sums.{sum_by-cons}
use Rattle.std.proofs.lemmas.List.{length-take, length-drop, length-map, take-append-drop, map-append}
use Rattle.tm_base.specs.declared.names.Child.{Child}
use Rattle.tm_base.specs.Children.{of_group}
use Rattle.tree_plan.specs.Shape.{runs_of, cut, joined, numbered, rows_at}
use Rattle.tree_plan.specs.Store.{lengths_of, groups_for, run_lengths, row_lengths_at}

pub length-runs_of : {A : Type 0} (n : ℕ) (xs : List A) → length (runs_of n xs) ≡ n
unfolding runs_of
length-runs_of zero xs = refl
length-runs_of (suc n) xs = ap suc (length-runs_of n (drop 8 xs))

pub length-cut : {A : Type 0} (xs : List A) → length (cut xs) ≡ groups_for (length xs)
unfolding cut
length-cut xs = length-runs_of _ xs

lengths-runs_of : {A : Type 0} (n : ℕ) (xs : List A) → map length (runs_of n xs) ≡ lengths_of n (length xs)
unfolding runs_of lengths_of
lengths-runs_of zero xs = refl
lengths-runs_of (suc n) xs = λ i. length-take 8 xs i ∷ (lengths-runs_of n (drop 8 xs) ∙ ap (lengths_of n) (length-drop 8 xs)) i

pub lengths-cut : {A : Type 0} (xs : List A) → map length (cut xs) ≡ run_lengths (length xs)
unfolding cut
lengths-cut xs = lengths-runs_of _ xs

joined-runs_of : {A : Type 0} (n : ℕ) (xs : List A) → length xs ≤ n * 8 → joined (runs_of n xs) ≡ xs
unfolding runs_of
joined-runs_of zero [] h = refl
joined-runs_of zero (x ∷ xs) h = absurd (omega arith)
joined-runs_of (suc n) xs h =
    ap (λ ys. take 8 xs ++ ys) (joined-runs_of n (drop 8 xs) (omega (arith, length-drop 8 xs))) ∙ take-append-drop 8 xs

pub joined-cut : {A : Type 0} (xs : List A) → joined (cut xs) ≡ xs
unfolding cut
joined-cut xs = joined-runs_of _ xs (omega arith)

-- a run has one to eight members
pub record IsRun {A : Type 0} (xs : List A) : Type 0 where
  pub some : 1 ≤ length xs
  pub few : length xs ≤ 8

-- each of them is a run
abbrev pub AllRuns : {A : Type 0} → List (List A) → Type 0
AllRuns [] = Unit {0}
AllRuns (xs ∷ xss) = IsRun xs × AllRuns xss

pub AllRuns-append : {A : Type 0} (xss yss : List (List A)) → AllRuns xss → AllRuns yss → AllRuns (xss ++ yss)
AllRuns-append [] yss h k = k
AllRuns-append (xs ∷ xss) yss h k = (h.0, AllRuns-append xss yss h.1 k)

pub run_at : {A : Type 0} (xss : List (List A)) (p : ℕ) (xs : List A) → AllRuns xss → slice_get xss p ≡ Some xs →
    IsRun xs
run_at [] p xs h e = absurd (none-some xs e)
run_at (ys ∷ xss) zero xs h e = subst IsRun (same_Some _ _ e) h.0
run_at (ys ∷ xss) (suc p) xs h e = run_at xss p xs h.1 e

runs-runs_of : {A : Type 0} (n : ℕ) (xs : List A) → n * 8 < length xs + 8 → AllRuns (runs_of n xs)
unfolding runs_of
runs-runs_of zero xs h = tt
runs-runs_of (suc n) xs h = (record { some = omega (arith, length-take 8 xs); few = omega (arith, length-take 8 xs) }, runs-runs_of n (drop 8 xs) (omega (arith, length-drop 8 xs)))

pub runs-cut : {A : Type 0} (xs : List A) → AllRuns (cut xs)
unfolding cut
runs-cut xs = runs-runs_of _ xs (omega arith)

-- ---- rows

pub length-joined : {A : Type 0} (xss : List (List A)) → length (joined xss) ≡ sum (map length xss)
length-joined [] = refl
length-joined (xs ∷ xss) = length-append xs (joined xss) ∙ (ap (λ n. length xs + n) (length-joined xss) ∙ sym (sum_by-cons (λ n. n) (length xs) (map length xss)))

pub joined-append : {A : Type 0} (xss yss : List (List A)) → joined (xss ++ yss) ≡ joined xss ++ joined yss
joined-append xss yss = flat_map-append (λ xs. xs) xss yss

-- what the groups of all rows have as children is what was in the rows
pub joined-level : {A : Type 0} (rows : List (List A)) → joined (joined (map cut rows)) ≡ joined rows
joined-level [] = refl
joined-level (row ∷ rows) =
    joined-append (cut row) (joined (map cut rows)) ∙ (ap (λ xs. xs ++ joined (joined (map cut rows))) (joined-cut row) ∙ ap (λ xs. row ++ xs) (joined-level rows))

pub runs-level : {A : Type 0} (rows : List (List A)) → AllRuns (joined (map cut rows))
runs-level [] = tt
runs-level (row ∷ rows) = AllRuns-append (cut row) (joined (map cut rows)) (runs-cut row) (runs-level rows)

pub lengths-level : {A : Type 0} (rows : List (List A)) →
    map length (joined (map cut rows)) ≡ flat_map run_lengths (map length rows)
lengths-level [] = refl
lengths-level (row ∷ rows) =
    map-append length (cut row) (joined (map cut rows)) ∙ (λ i. lengths-cut row i ++ lengths-level rows i)

pub lengths-cuts : {A : Type 0} (rows : List (List A)) → map length (map cut rows) ≡ map groups_for (map length rows)
lengths-cuts [] = refl
lengths-cuts (row ∷ rows) = λ i. length-cut row i ∷ lengths-cuts rows i

pub lengths-numbered : (first : ℕ) (rows : List (List (List Child))) →
    map length (numbered first rows) ≡ map length rows
unfolding numbered
lengths-numbered first [] = refl
lengths-numbered first (groups ∷ rows) =
    λ i. (length-map (range_with_len first (length groups)) of_group ∙ length-range_with_len first (length groups)) i ∷ lengths-numbered (first + length groups) rows i

pub map-cond : {X Y : Type 0} (f : X → Y) (b : Bool) (xs ys : List X) →
    map f (cond b xs ys) ≡ cond b (map f xs) (map f ys)
map-cond f true xs ys = refl
map-cond f false xs ys = refl

pub lengths-rows_at : (inner l : ℕ) (rows : List (List Child)) →
    map length (rows_at inner l rows) ≡ row_lengths_at inner l (map length rows)
unfolding rows_at
lengths-rows_at inner l rows =
    map-cond length (ltb l inner) rows (joined rows ∷ []) ∙ ap (λ n. cond (ltb l inner) (map length rows) (n ∷ [])) (length-joined rows)
