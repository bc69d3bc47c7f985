-- lists of works that have each at most once
use Rattle.std.proofs.Common.{◌≡◌, ◌≢◌, ℕ, zero, suc, ◌+◌, ◌≤◌, List, [], ◌∷◌, ◌++◌}
use Rattle.std.proofs.Common.{length, refl, sym, ◌∙◌, subst, inl, inr, arith, Some}
use Rattle.std.specs.Prelude.{◌==◌}
use Rattle.std.proofs.lemmas.Bool.{cases_Bool, eqb-true, eqb-false, eq-eqb, ne_eqb}
use Rattle.std.proofs.lemmas.Option.{same_Some}
use Rattle.key_lists.specs.Tables.{Holds, Lacks, first_key, without}
use Rattle.delayed_work.specs.Ledger.{AreDistinct}

pub holds_push : (work : ℕ) (works : List ℕ) → Holds work (works ++ work ∷ [])
holds_push work [] = inl refl
holds_push work (first ∷ works) = inr (holds_push work works)

pub holds_more : (work last : ℕ) (works : List ℕ) → Holds work works → Holds work (works ++ last ∷ [])
holds_more work last [] holds = absurd holds
holds_more work last (first ∷ works) (inl is) = inl is
holds_more work last (first ∷ works) (inr later) = inr (holds_more work last works later)

pub lacks_more : (work last : ℕ) (works : List ℕ) → work ≢ last → Lacks work works
    → Lacks work (works ++ last ∷ [])
lacks_more work last [] apart lacks = ((λ same. apart (sym same)), tt)
lacks_more work last (first ∷ works) apart lacks =
    (lacks.0, lacks_more work last works apart lacks.1)

pub distinct_more : (last : ℕ) (works : List ℕ) → Lacks last works → AreDistinct works
    → AreDistinct (works ++ last ∷ [])
distinct_more last [] lacks distinct = (tt, tt)
distinct_more last (first ∷ works) lacks distinct = (
  lacks_more first last works (λ same. lacks.0 same) distinct.0,
  distinct_more last works lacks.1 distinct.1,
)

pub lacks_without : (work out : ℕ) (works : List ℕ) → Lacks work works → Lacks work (without out works)
lacks_without work out [] lacks = tt
lacks_without work out (first ∷ works) lacks =
    elim (cases_Bool (first == out)) [
      | inl here ↦ rw here lacks.1
      | inr there ↦ rw there (lacks.0, lacks_without work out works lacks.1)
    ]

pub holds_without : (work out : ℕ) (works : List ℕ) → work ≢ out → Holds work works
    → Holds work (without out works)
holds_without work out [] apart holds = absurd holds
holds_without work out (first ∷ works) apart (inl is) =
    rw (ne_eqb first out (λ same. apart (sym is ∙ same))) (inl is)
holds_without work out (first ∷ works) apart (inr later) =
    elim (cases_Bool (first == out)) [
      | inl here ↦ rw here later
      | inr there ↦ rw there (inr (holds_without work out works apart later))
    ]

pub gone : (out : ℕ) (works : List ℕ) → AreDistinct works → Lacks out (without out works)
gone out [] distinct = tt
gone out (first ∷ works) distinct =
    elim (cases_Bool (first == out)) [
      | inl here ↦ rw here (subst (λ w. Lacks w works) (eqb-true _ _ here) distinct.0)
      | inr there ↦ rw there (eqb-false _ _ there, gone out works distinct.1)
    ]

pub distinct_without : (out : ℕ) (works : List ℕ) → AreDistinct works → AreDistinct (without out works)
distinct_without out [] distinct = tt
distinct_without out (first ∷ works) distinct =
    elim (cases_Bool (first == out)) [
      | inl here ↦ rw here distinct.1
      | inr there ↦
          rw there (lacks_without first out works distinct.0, distinct_without out works distinct.1)
    ]

pub length_without : (out : ℕ) (works : List ℕ) → Holds out works
    → length (without out works) + 1 ≡ length works
length_without out [] holds = absurd holds
length_without out (first ∷ works) (inl is) = rw (eq-eqb first out is) (omega arith)
length_without out (first ∷ works) (inr later) =
    elim (cases_Bool (first == out)) [
      | inl here ↦ rw here (omega arith)
      | inr there ↦ rw there (let rest = length_without out works later in omega (arith, rest))
    ]

pub fewer_without : (out : ℕ) (works : List ℕ) → length works ≤ length (without out works) + 1
fewer_without out [] = omega arith
fewer_without out (first ∷ works) =
    elim (cases_Bool (first == out)) [
      | inl here ↦ rw here (omega arith)
      | inr there ↦ rw there (let rest = fewer_without out works in omega (arith, rest))
    ]

-- works below a number, each once, are no more than the number
pub few : (n : ℕ) (works : List ℕ) → AreDistinct works → ((work : ℕ) → n ≤ work → Lacks work works)
    → length works ≤ n
few zero [] distinct none = omega arith
few zero (first ∷ works) distinct none = absurd ((none first (omega arith)).0 refl)
few (suc n) works distinct none =
    let rest : length (without n works) ≤ n = few n (without n works) (distinct_without n works distinct)
    (λ work past. elim (cases_Bool (work == n)) [
      | inl here ↦ subst (λ w. Lacks w (without n works)) (sym (eqb-true _ _ here)) (gone n works distinct)
      | inr there ↦
          let apart = eqb-false work n there in
          lacks_without work n works (none work (omega arith))
    ]) in
    let fewer = fewer_without n works in
    omega arith

pub first_holds : (first : ℕ) (works : List ℕ) → first_key works ≡ Some first → Holds first works
first_holds first [] is = absurd cc
first_holds first (work ∷ works) is = inl (same_Some work first is)

pub not_both : (work : ℕ) (works : List ℕ) → Holds work works → Lacks work works → ⊥
not_both work [] holds lacks = holds
not_both work (first ∷ works) (inl is) lacks = lacks.0 is
not_both work (first ∷ works) (inr later) lacks = not_both work works later lacks.1
