-- for crates above: elements that are taken from one list, one after another, and what is made of them
use Rattle.std.proofs.Common.{arith, ◌≡◌, ℕ, suc, ◌+◌, ◌<◌, List, [], ◌∷◌, ◌++◌, length, sym}
use Rattle.std.proofs.Common.{ap, subst, ◌∙◌, refl, Some}
use Rattle.std.specs.Prelude.{slice_get}
use Rattle.std.specs.List.{flat_map, range_with_len}
use Rattle.std.proofs.lemmas.List.{length-append}
use Rattle.idle_wakeup.specs.shared_rule.Rule.{Each}
use Rattle.run_shares.specs.Tasks.{EachFrom}
use Rattle.run_shares.specs.Progress.{MovedSoFar}

-- one more at the end
pub with_last : {Y : Type 0} (Q : ℕ → Y → Type 0) (k : ℕ) (made : List Y) (y : Y)
    → EachFrom Q k made → Q (k + length made) y → EachFrom Q k (made ++ y ∷ [])
with_last Q k [] y each is =
    let same : k + 0 ≡ k = omega arith in (subst (λ j. Q j y) same is, tt)
with_last Q k (x ∷ made) y each is =
    let same : k + suc (length made) ≡ suc k + length made = omega arith in
    (each.0, with_last Q (suc k) made y each.1 (subst (λ j. Q j y) same is))

-- whatever follows from its being one of these
pub each_follows : {X : Type 0} (P Q : ℕ → X → Type 0) (k : ℕ) (xs : List X)
    → ((i : ℕ) (x : X) → i < length xs → P (k + i) x → Q (k + i) x) → EachFrom P k xs
    → EachFrom Q k xs
each_follows P Q k [] each h = tt
each_follows P Q k (x ∷ xs) each h =
    let here : k ≡ k + 0 = omega arith in (
      subst (λ j. Q j x) (sym here) (each 0 x (omega arith) (subst (λ j. P j x) here h.0)),
      each_follows P Q (suc k) xs (λ i y low is.
          let there : suc k + i ≡ k + suc i = omega arith in
          subst (λ j. Q j y) (sym there)
          (each (suc i) y (omega (arith, low)) (subst (λ j. P j y) there is))) h.1,
    )

-- without its number
pub each_alone : {X : Type 0} (P : X → Type 0) (k : ℕ) (xs : List X)
    → EachFrom (λ c. P) k xs → Each P xs
each_alone P k [] h = tt
each_alone P k (x ∷ xs) h = (h.0, each_alone P (suc k) xs h.1)

-- and with any
pub each_numbered : {X : Type 0} (P : X → Type 0) (k : ℕ) (xs : List X)
    → Each P xs → EachFrom (λ c. P) k xs
each_numbered P k [] h = tt
each_numbered P k (x ∷ xs) h = (h.0, each_numbered P (suc k) xs h.1)

-- nothing is moved yet
pub none_moved : {X Y : Type 0} (P : ℕ → X → Type 0) (Q : ℕ → Y → Type 0) (rest : List X)
    (made : List Y) → made ≡ [] → EachFrom P 0 rest → MovedSoFar P Q (length rest) rest made
none_moved P Q rest made none each =
    subst (MovedSoFar P Q (length rest) rest) (sym none)
    (record { left = each; done = tt; all = omega arith })

module _ {X Y : Type 0} (P : ℕ → X → Type 0) (Q : ℕ → Y → Type 0) (count : ℕ) (rest : List X)
    (made : List Y) (so_far : MovedSoFar P Q count rest made) (x : X) (later : List X)
    (steps : rest ≡ x ∷ later) where
  -- the next one is as it was
  pub next_is : P (length made) x
  next_is = (subst (EachFrom P (length made)) steps so_far.left).0

  -- and it goes on
  pub one_moved : (y : Y) (new : List Y) → new ≡ made ++ y ∷ [] → Q (length made) y
      → MovedSoFar P Q count later new
  one_moved y new pushed is =
      let longer : length new ≡ suc (length made)
      = let sum = length-append made (y ∷ []) in let same = ap length pushed in
      omega (arith, sum, same) in
      let was : length rest ≡ suc (length later) = ap length steps in
      let place : length made ≡ 0 + length made = omega arith in
      record {
        left = subst (λ n. EachFrom P n later) (sym longer)
            (subst (EachFrom P (length made)) steps so_far.left).1;
        done = subst (EachFrom Q 0) (sym pushed) (with_last Q 0 made y so_far.done
            (subst (λ n. Q n y) place is));
        all = let sum = so_far.all in omega (arith, longer, was, sum);
      }

-- at the end all are made
pub all_made : {X Y : Type 0} (P : ℕ → X → Type 0) (Q : ℕ → Y → Type 0) (count : ℕ)
    (rest : List X) (made : List Y) → MovedSoFar P Q count rest made → rest ≡ []
    → length made ≡ count
all_made P Q count rest made so_far none =
    let sum = so_far.all in let is = ap length none in omega (arith, sum, is)

-- rows behind one another are those of the numbers of their elements
pub rows_by_number : {X Y : Type 0} (g : X → List Y) (f : ℕ → List Y) (k : ℕ) (xs : List X)
    → ((i : ℕ) (x : X) → slice_get xs i ≡ Some x → g x ≡ f (k + i))
    → flat_map g xs ≡ flat_map f (range_with_len k (length xs))
rows_by_number g f k [] same = refl
rows_by_number g f k (x ∷ xs) same =
    let here : k + 0 ≡ k = omega arith in
    let first = same 0 x refl ∙ ap f here in
    let others = rows_by_number g f (k + 1) xs (λ i y at.
    let there : k + suc i ≡ k + 1 + i = omega arith in same (suc i) y at ∙ ap f there) in
    λ i. first i ++ others i
