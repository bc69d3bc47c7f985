-- for crates above: searches among the CPUs of a core, one CPU after another
use Rattle.std.proofs.Common.{◌≡◌, ℕ, ◌+◌, ◌<◌, ◌≤◌, Bool, true, false, [], ◌∷◌, Option, Some, None}
use Rattle.std.proofs.Common.{length, refl, sym, ap, ◌∙◌, arith, inl, inr, true≢false}
use Rattle.std.specs.Prelude.{find, if◌then◌else◌, min}
use Rattle.std.specs.List.{fold, list_any, range_with_len}
use Rattle.std.specs.Option.{option_or}
use Rattle.std.proofs.lemmas.Bool.{cases_lt, false_from_ne_true}
use Rattle.std.proofs.lemmas.List.Folds.{find-append}
use Rattle.std.proofs.lemmas.List.Sums.{fold-append}
use Rattle.play_rules.specs.State.{all_cpus}
use Rattle.play_rules.proofs.Loops.{range_more}
use Rattle.step_play.proofs.play_laws.Answered.Ranges.{found_there}
use Rattle.core_world.specs.World.{World}
use Rattle.step_play.specs.Rules.Seen.{state_of}
use Rattle.step_play.proofs.Queues.Ranges.{all_pass, any_at, any_from, found}
use Rattle.step_play.proofs.Queues.Sights.{cpus_seen}

module _ (w : World) (p : ℕ → Bool) where
  -- no CPU below this number passes the test
  abbrev pub NoneBelow : ℕ → Type 0
  NoneBelow n = (d : ℕ) → d < n → p d ≡ false

  pub none_more : (n : ℕ) → NoneBelow n → p n ≡ false → NoneBelow (n + 1)
  none_more n so_far is d low = elim (cases_lt d n) [
    | inl below ↦ so_far d below
    | inr high ↦ let same : d ≡ n = omega (arith, low, high) in ap p same ∙ is
  ]

  -- WHETHER one passes
  pub any_here : (k : ℕ) → k < length w.cpus → p k ≡ true →
      list_any p (all_cpus (state_of w)) ≡ true
  any_here k low is =
      ap (list_any p) (cpus_seen w)
      ∙ any_at p 0 (length w.cpus) k (omega arith) (omega (arith, low)) is

  pub any_none : (k : ℕ) → NoneBelow k → length w.cpus ≤ k →
      list_any p (all_cpus (state_of w)) ≡ false
  any_none k none high =
      ap (list_any p) (cpus_seen w)
      ∙ false_from_ne_true (list_any p (range_with_len 0 (length w.cpus))) (λ is.
      let at = any_from p 0 (length w.cpus) is in
      let within = at.within in
      true≢false (sym at.passes ∙ none at.number (omega (arith, within, high))))

  -- THE FIRST that does
  not_below : (k d : ℕ) → NoneBelow k → p d ≡ true → k ≤ d
  not_below k d none is = elim (cases_lt d k) [
    | inl below ↦ absurd (true≢false (sym is ∙ none d below))
    | inr high ↦ high
  ]

  pub find_here : (k : ℕ) → NoneBelow k → k < length w.cpus → p k ≡ true →
      find p (all_cpus (state_of w)) ≡ Some k
  find_here k none low is =
      ap (find p) (cpus_seen w)
      ∙ (ap (find p) (sym (all_pass (range_with_len 0 (length w.cpus))))
      ∙ found p (λ d. true) 0 (length w.cpus) k (omega arith) (omega (arith, low)) refl is
      (λ d any passes. not_below k d none passes))

  pub find_none : (k : ℕ) → NoneBelow k → length w.cpus ≤ k →
      find p (all_cpus (state_of w)) ≡ None
  find_none k none high =
      ap (find p) (cpus_seen w) ∙ by_found (find p (range_with_len 0 (length w.cpus))) refl
    where
      by_found : (o : Option ℕ) → find p (range_with_len 0 (length w.cpus)) ≡ o → o ≡ None
      by_found None is = refl
      by_found (Some d) is =
          let at = found_there p 0 (length w.cpus) d is in
          let below = at.below in
          absurd (true≢false (sym at.passes ∙ none d (omega (arith, below, high))))

-- a search that goes on past one that passes, with one CPU more
pub find_more : (p : ℕ → Bool) (n : ℕ) (o next : Option ℕ) → o ≡ find p (range_with_len 0 n) →
    next ≡ option_or o (if p n then Some n else None) → next ≡ find p (range_with_len 0 (n + 1))
find_more p n o next so_far is =
    is
    ∙ (ap (λ m. option_or m (if p n then Some n else None)) so_far
    ∙ sym (ap (find p) (range_more n) ∙ find-append p (range_with_len 0 n) (n ∷ [])))

-- THE LEAST of what they have
pub least_more : (f : ℕ → ℕ) (top n least next : ℕ) →
    least ≡ fold (λ m c. min m (f c)) top (range_with_len 0 n) → next ≡ min least (f n) →
    next ≡ fold (λ m c. min m (f c)) top (range_with_len 0 (n + 1))
least_more f top n least next so_far is =
    is
    ∙ (ap (λ m. min m (f n)) so_far
    ∙ sym (ap (fold (λ m c. min m (f c)) top) (range_more n)
    ∙ fold-append (λ m c. min m (f c)) top (range_with_len 0 n) (n ∷ [])))
