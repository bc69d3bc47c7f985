-- a list's texts, one behind the other
use Rattle.std.proofs.Common.{◌≡◌, ℕ, ◌+◌, ◌<◌, ◌≤◌, Bool, true, false, List, ◌++◌, drop, length, slice_index_or, sym, ap, ◌∙◌, append_assoc, append-nil}
use Rattle.std.specs.List.{flat_map}
use Rattle.std.proofs.lemmas.List.{drop_all, drop_more}
use Rattle.orders_answer.specs.declared.shown.EndShown.{EndShown}
use Rattle.orders_answer.specs.Lines.{end_shown}
use Rattle.std.proofs.lemmas.Bool.{cond-false, cond-true}
use Rattle.orders_answer.specs.declared.shown.TimerShown.{TimerShown}
use Rattle.orders_answer.specs.Answers.{ends_shown, forgets, is_nobody, sum_of}

module _ {X : Type 0} (f : X → List ℕ) (xs : List X) (i : ℕ) where
  pub one_more : (d : X) (before after total : List ℕ) → i < length xs → after ≡ before ++ f (slice_index_or xs i d) → before ++ flat_map f (drop i xs) ≡ total
      → after ++ flat_map f (drop (i + 1) xs) ≡ total
  one_more d before after total low written same =
      let rest = flat_map f (drop (i + 1) xs) in
      ap (λ (t : List ℕ). t ++ rest) written ∙ append_assoc before (f (slice_index_or xs i d)) rest
      ∙ ap (λ (ys : List X). before ++ flat_map f ys) (sym (drop_more xs i d low)) ∙ same

  pub no_more : (text total : List ℕ) → length xs ≤ i → text ++ flat_map f (drop i xs) ≡ total → text ≡ total
  no_more text total far same = sym (append-nil text) ∙ ap (λ (ys : List X). text ++ flat_map f ys) (sym (drop_all i xs far)) ∙ same

module _ (xs : List EndShown) (i : ℕ) where
  pub end_more : (d : EndShown) (number : ℕ) (before after total : List ℕ) → i < length xs → after ≡ before ++ end_shown number (slice_index_or xs i d)
      → before ++ ends_shown number (drop i xs) ≡ total → after ++ ends_shown (number + 1) (drop (i + 1) xs) ≡ total
  unfolding ends_shown
  end_more d number before after total low written same =
      let rest = ends_shown (number + 1) (drop (i + 1) xs) in
      ap (λ (t : List ℕ). t ++ rest) written ∙ append_assoc before (end_shown number (slice_index_or xs i d)) rest
      ∙ ap (λ (ys : List EndShown). before ++ ends_shown number ys) (sym (drop_more xs i d low)) ∙ same

  pub end_none : (number : ℕ) (text total : List ℕ) → length xs ≤ i → text ++ ends_shown number (drop i xs) ≡ total → text ≡ total
  unfolding ends_shown
  end_none number text total far same = sym (append-nil text) ∙ ap (λ (ys : List EndShown). text ++ ends_shown number ys) (sym (drop_all i xs far)) ∙ same

  module _ (f : EndShown → ℕ) where
    pub sum_more : (d x : EndShown) → i < length xs → x ≡ slice_index_or xs i d → sum_of f (drop i xs) ≡ f x + sum_of f (drop (i + 1) xs)
    unfolding sum_of
    sum_more d x low is = ap (sum_of f) (drop_more xs i d low) ∙ ap (λ (e : EndShown). f e + sum_of f (drop (i + 1) xs)) (sym is)

    pub sum_none : length xs ≤ i → sum_of f (drop i xs) ≡ 0
    unfolding sum_of
    sum_none far = ap (sum_of f) (drop_all i xs far)

module _ (ts : List TimerShown) (i : ℕ) where
  pub timer_here : (d : TimerShown) (by : Bool) → i < length ts → by ≡ is_nobody (slice_index_or ts i d).by → by ≡ true → forgets (drop i ts) ≡ true
  unfolding forgets
  timer_here d by low is here = ap forgets (drop_more ts i d low) ∙ cond-true (is_nobody (slice_index_or ts i d).by) true _ (sym is ∙ here)

  pub timer_next : (d : TimerShown) (by : Bool) → i < length ts → by ≡ is_nobody (slice_index_or ts i d).by → by ≡ false → forgets (drop i ts) ≡ forgets (drop (i + 1) ts)
  unfolding forgets
  timer_next d by low is other = ap forgets (drop_more ts i d low) ∙ cond-false (is_nobody (slice_index_or ts i d).by) true _ (sym is ∙ other)

  pub timer_none : length ts ≤ i → forgets (drop i ts) ≡ false
  unfolding forgets
  timer_none far = ap forgets (drop_all i ts far)
