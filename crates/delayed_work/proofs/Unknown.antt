-- the first job of a script of works that a table hasn't
use Rattle.std.proofs.Common.{◌≡◌, ℕ, ◌+◌, ◌<◌, ◌≤◌, List, Some, None, refl, sym, ap, subst, ◌∙◌, get_or}
use Rattle.std.specs.Prelude.{drop, length}
use Rattle.std.specs.Option.{option_or}
use Rattle.std.proofs.lemmas.List.{drop_all, drop_more}
use Rattle.work_script.specs.declared.syntax.WorkMoment.{WorkMoment}
use Rattle.work_script.specs.declared.syntax.WorkOp.{WorkOp}
use Rattle.delayed_work.specs.declared.faults.UnknownWorkJob.{UnknownWorkJob}
use Rattle.delayed_work.specs.Play.{unknown_in, unknown_in_work_ops, unknown_of}

module _ (n i : ℕ) (d : WorkOp) where
  op_at : (xs : List WorkOp) → i < length xs
      → unknown_in_work_ops n (drop i xs) ≡ option_or (unknown_of n (get_or xs i d)) (unknown_in_work_ops n (drop (i + 1) xs))
  unfolding unknown_in_work_ops
  op_at xs low = rw (drop_more xs i d low) refl

  pub op_found : (u : UnknownWorkJob) (items xs : List WorkOp) → items ≡ xs → i < length items
      → unknown_in_work_ops n (drop i xs) ≡ unknown_in_work_ops n xs → Some u ≡ unknown_of n (get_or items i d) → Some u ≡ unknown_in_work_ops n xs
  op_found u items xs same low far is =
      let here : i < length xs = subst (λ ys. i < length ys) same low in
      let it : Some u ≡ unknown_of n (get_or xs i d) = subst (λ ys. Some u ≡ unknown_of n (get_or ys i d)) same is in
      ap (λ x. option_or x (unknown_in_work_ops n (drop (i + 1) xs))) it ∙ sym (op_at xs here) ∙ far

  pub op_next : (items xs : List WorkOp) → items ≡ xs → i < length items
      → unknown_in_work_ops n (drop i xs) ≡ unknown_in_work_ops n xs → None ≡ unknown_of n (get_or items i d) → unknown_in_work_ops n (drop (i + 1) xs) ≡ unknown_in_work_ops n xs
  op_next items xs same low far is =
      let here : i < length xs = subst (λ ys. i < length ys) same low in
      let it : None ≡ unknown_of n (get_or xs i d) = subst (λ ys. None ≡ unknown_of n (get_or ys i d)) same is in
      ap (λ x. option_or x (unknown_in_work_ops n (drop (i + 1) xs))) it ∙ sym (op_at xs here) ∙ far

pub op_end : (n i : ℕ) (items xs : List WorkOp) → items ≡ xs → length items ≤ i → unknown_in_work_ops n (drop i xs) ≡ unknown_in_work_ops n xs → None ≡ unknown_in_work_ops n xs
unfolding unknown_in_work_ops
op_end n i items xs same high far =
    let past : length xs ≤ i = subst (λ ys. length ys ≤ i) same high in
    rw (drop_all i xs past) at far

module _ (n i : ℕ) (d : WorkMoment) where
  moment_at : (xs : List WorkMoment) → i < length xs
      → unknown_in n (drop i xs) ≡ option_or (unknown_in_work_ops n (get_or xs i d).ops) (unknown_in n (drop (i + 1) xs))
  unfolding unknown_in
  moment_at xs low = rw (drop_more xs i d low) refl

  pub moment_found : (u : UnknownWorkJob) (items xs : List WorkMoment) → items ≡ xs → i < length items
      → unknown_in n (drop i xs) ≡ unknown_in n xs → Some u ≡ unknown_in_work_ops n (get_or items i d).ops → Some u ≡ unknown_in n xs
  moment_found u items xs same low far is =
      let here : i < length xs = subst (λ ys. i < length ys) same low in
      let it : Some u ≡ unknown_in_work_ops n (get_or xs i d).ops = subst (λ ys. Some u ≡ unknown_in_work_ops n (get_or ys i d).ops) same is in
      ap (λ x. option_or x (unknown_in n (drop (i + 1) xs))) it ∙ sym (moment_at xs here) ∙ far

  pub moment_next : (items xs : List WorkMoment) → items ≡ xs → i < length items
      → unknown_in n (drop i xs) ≡ unknown_in n xs → None ≡ unknown_in_work_ops n (get_or items i d).ops → unknown_in n (drop (i + 1) xs) ≡ unknown_in n xs
  moment_next items xs same low far is =
      let here : i < length xs = subst (λ ys. i < length ys) same low in
      let it : None ≡ unknown_in_work_ops n (get_or xs i d).ops = subst (λ ys. None ≡ unknown_in_work_ops n (get_or ys i d).ops) same is in
      ap (λ x. option_or x (unknown_in n (drop (i + 1) xs))) it ∙ sym (moment_at xs here) ∙ far

pub moment_end : (n i : ℕ) (items xs : List WorkMoment) → items ≡ xs → length items ≤ i → unknown_in n (drop i xs) ≡ unknown_in n xs → None ≡ unknown_in n xs
unfolding unknown_in
moment_end n i items xs same high far =
    let past : length xs ≤ i = subst (λ ys. length ys ≤ i) same high in
    rw (drop_all i xs past) at far
