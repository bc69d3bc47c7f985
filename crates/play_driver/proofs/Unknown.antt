-- the first job of a script that a table hasn't
use Rattle.std.proofs.Common.{◌≡◌, ℕ, ◌+◌, ◌<◌, ◌≤◌, List, Some, None, refl, sym, ap, subst, ◌∙◌, get_or}
use Rattle.std.specs.Prelude.{drop, length}
use Rattle.std.specs.Option.{option_or}
use Rattle.std.proofs.lemmas.List.{drop_all, drop_more}
use Rattle.tm_script.specs.declared.syntax.Moment.{Moment}
use Rattle.tm_script.specs.declared.syntax.Op.{Op}
use Rattle.play_rules.specs.declared.asks.UnknownJob.{UnknownJob}
use Rattle.play_rules.specs.Jobs.{first_unknown_job, unknown_in_ops, unknown_job_of}

module _ (n i : ℕ) (d : Op) where
  op_at : (xs : List Op) → i < length xs
      → unknown_in_ops n (drop i xs) ≡ option_or (unknown_job_of n (get_or xs i d)) (unknown_in_ops n (drop (i + 1) xs))
  unfolding unknown_in_ops
  op_at xs low = rw (drop_more xs i d low) refl

  pub op_found : (u : UnknownJob) (items xs : List Op) → items ≡ xs → i < length items
      → unknown_in_ops n (drop i xs) ≡ unknown_in_ops n xs → Some u ≡ unknown_job_of n (get_or items i d) → Some u ≡ unknown_in_ops n xs
  op_found u items xs same low far is =
      let here : i < length xs = subst (λ ys. i < length ys) same low in
      let it : Some u ≡ unknown_job_of n (get_or xs i d) = subst (λ ys. Some u ≡ unknown_job_of n (get_or ys i d)) same is in
      ap (λ x. option_or x (unknown_in_ops n (drop (i + 1) xs))) it ∙ sym (op_at xs here) ∙ far

  pub op_next : (items xs : List Op) → items ≡ xs → i < length items
      → unknown_in_ops n (drop i xs) ≡ unknown_in_ops n xs → None ≡ unknown_job_of n (get_or items i d) → unknown_in_ops n (drop (i + 1) xs) ≡ unknown_in_ops n xs
  op_next items xs same low far is =
      let here : i < length xs = subst (λ ys. i < length ys) same low in
      let it : None ≡ unknown_job_of n (get_or xs i d) = subst (λ ys. None ≡ unknown_job_of n (get_or ys i d)) same is in
      ap (λ x. option_or x (unknown_in_ops n (drop (i + 1) xs))) it ∙ sym (op_at xs here) ∙ far

pub op_end : (n i : ℕ) (items xs : List Op) → items ≡ xs → length items ≤ i → unknown_in_ops n (drop i xs) ≡ unknown_in_ops n xs → None ≡ unknown_in_ops n xs
unfolding unknown_in_ops
op_end n i items xs same high far =
    let past : length xs ≤ i = subst (λ ys. length ys ≤ i) same high in
    rw (drop_all i xs past) at far

module _ (n i : ℕ) (d : Moment) where
  moment_at : (xs : List Moment) → i < length xs
      → first_unknown_job n (drop i xs) ≡ option_or (unknown_in_ops n (get_or xs i d).ops) (first_unknown_job n (drop (i + 1) xs))
  unfolding first_unknown_job
  moment_at xs low = rw (drop_more xs i d low) refl

  pub moment_found : (u : UnknownJob) (items xs : List Moment) → items ≡ xs → i < length items
      → first_unknown_job n (drop i xs) ≡ first_unknown_job n xs → Some u ≡ unknown_in_ops n (get_or items i d).ops → Some u ≡ first_unknown_job n xs
  moment_found u items xs same low far is =
      let here : i < length xs = subst (λ ys. i < length ys) same low in
      let it : Some u ≡ unknown_in_ops n (get_or xs i d).ops = subst (λ ys. Some u ≡ unknown_in_ops n (get_or ys i d).ops) same is in
      ap (λ x. option_or x (first_unknown_job n (drop (i + 1) xs))) it ∙ sym (moment_at xs here) ∙ far

  pub moment_next : (items xs : List Moment) → items ≡ xs → i < length items
      → first_unknown_job n (drop i xs) ≡ first_unknown_job n xs → None ≡ unknown_in_ops n (get_or items i d).ops → first_unknown_job n (drop (i + 1) xs) ≡ first_unknown_job n xs
  moment_next items xs same low far is =
      let here : i < length xs = subst (λ ys. i < length ys) same low in
      let it : None ≡ unknown_in_ops n (get_or xs i d).ops = subst (λ ys. None ≡ unknown_in_ops n (get_or ys i d).ops) same is in
      ap (λ x. option_or x (first_unknown_job n (drop (i + 1) xs))) it ∙ sym (moment_at xs here) ∙ far

pub moment_end : (n i : ℕ) (items xs : List Moment) → items ≡ xs → length items ≤ i → first_unknown_job n (drop i xs) ≡ first_unknown_job n xs → None ≡ first_unknown_job n xs
unfolding first_unknown_job
moment_end n i items xs same high far =
    let past : length xs ≤ i = subst (λ ys. length ys ≤ i) same high in
    rw (drop_all i xs past) at far
