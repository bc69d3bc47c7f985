-- sleepers below a number, each once, are no more than the number
use Rattle.std.proofs.Common.{ℕ, zero, suc, ◌+◌, ◌<◌, ◌≤◌, List, [], ◌∷◌, length}
use Rattle.std.proofs.Common.{subst, inl, inr, arith}
use Rattle.std.specs.Prelude.{◌==◌, if◌then◌else◌}
use Rattle.std.proofs.lemmas.Bool.{cases_Bool, eqb-true, eqb-false}
use Rattle.deep_idle.specs.declared.order.Sleeper.{Sleeper}
use Rattle.deep_idle.specs.Order.{AreDistinctSleepers, EachSleeper, LacksSleeper}

abbrev without : (cpu : ℕ) → List Sleeper → List Sleeper
without cpu [] = []
without cpu (s ∷ list) = if s.cpu.0 == cpu then list else s ∷ without cpu list

lacks_without : (cpu out : ℕ) (list : List Sleeper) → LacksSleeper cpu list → LacksSleeper cpu (without out list)
lacks_without cpu out [] lacks = tt
lacks_without cpu out (s ∷ list) lacks = elim (cases_Bool (s.cpu.0 == out)) [
  | inl here ↦ rw here lacks.1
  | inr there ↦ rw there (lacks.0, lacks_without cpu out list lacks.1)
]

distinct_without : (out : ℕ) (list : List Sleeper) → AreDistinctSleepers list → AreDistinctSleepers (without out list)
distinct_without out [] distinct = tt
distinct_without out (s ∷ list) distinct = elim (cases_Bool (s.cpu.0 == out)) [
  | inl here ↦ rw here distinct.1
  | inr there ↦ rw there (lacks_without s.cpu.0 out list distinct.0, distinct_without out list distinct.1)
]

fewer_without : (out : ℕ) (list : List Sleeper) → length list ≤ length (without out list) + 1
fewer_without out [] = omega arith
fewer_without out (s ∷ list) = elim (cases_Bool (s.cpu.0 == out)) [
  | inl here ↦ rw here (omega arith)
  | inr there ↦ rw there (let rest = fewer_without out list in omega (arith, rest))
]

below : (n : ℕ) (list : List Sleeper) → LacksSleeper n list → EachSleeper (λ s. s.cpu.0 < suc n) list
    → EachSleeper (λ s. s.cpu.0 < n) list
below n [] lacks each = tt
below n (s ∷ list) lacks each =
    let away = lacks.0 in let here = each.0 in (omega (arith, away, here), below n list lacks.1 each.1)

below_without : (n : ℕ) (list : List Sleeper) → AreDistinctSleepers list
    → EachSleeper (λ s. s.cpu.0 < suc n) list → EachSleeper (λ s. s.cpu.0 < n) (without n list)
below_without n [] distinct each = tt
below_without n (s ∷ list) distinct each = elim (cases_Bool (s.cpu.0 == n)) [
  | inl here ↦ rw here (below n list (subst (λ c. LacksSleeper c list) (eqb-true _ _ here) distinct.0) each.1)
  | inr there ↦
      let away = eqb-false s.cpu.0 n there in
      let low = each.0 in
      rw there (omega (arith, away, low), below_without n list distinct.1 each.1)
]

pub few : (n : ℕ) (list : List Sleeper) → AreDistinctSleepers list → EachSleeper (λ s. s.cpu.0 < n) list
    → length list ≤ n
few zero [] distinct each = omega arith
few zero (s ∷ list) distinct each = let here = each.0 in absurd (omega arith)
few (suc n) list distinct each =
    let rest = few n (without n list) (distinct_without n list distinct) (below_without n list distinct each) in
    let fewer = fewer_without n list in
    omega arith
