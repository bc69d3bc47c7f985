-- a set of numbers below n has at most n of them
use Rattle.std.proofs.Common.{◌≡◌, ℕ, zero, suc, ◌+◌, ◌<◌, ◌≤◌, Bool, true, false, cond, inl, inr}
use Rattle.std.proofs.Common.{sym, ap, ◌∙◌, subst, arith, eqb, eq-eqb}
use Rattle.std.specs.Prelude.{◌||◌}
use Rattle.std.proofs.lemmas.Bool.{cases_eq}
use Rattle.std.specs.FinSet.{FinSet, contains, contains-insert, insert}
use Rattle.std.specs.Cmp.{nat_cmp_total, unsigned_tied}
use Rattle.std.specs.Ordering.{nat_cmp}

-- how many numbers below n are in the set
abbrev pub count_below : FinSet nat_cmp → ℕ → ℕ
count_below s zero = 0
count_below s (suc n) = cond (contains s n) 1 0 + count_below s n

pub few_below : (s : FinSet nat_cmp) (n : ℕ) → count_below s n ≤ n
few_below s zero = omega arith
few_below s (suc n) = at (contains s n) (few_below s n)
  where
    at : (b : Bool) → count_below s n ≤ n → cond b 1 0 + count_below s n ≤ suc n
    at true low = omega (arith, low)
    at false low = omega (arith, low)

has : (s : FinSet nat_cmp) (d q : ℕ) → contains (insert s d) q ≡ (eqb q d || contains s q)
has s d q = contains-insert nat_cmp_total s d q ∙ ap (λ t. t || contains s q) (unsigned_tied q d)

no_fewer : (a b : Bool) → cond b 1 0 ≤ cond (a || b) 1 0
no_fewer true true = omega arith
no_fewer true false = omega arith
no_fewer false true = omega arith
no_fewer false false = omega arith

there : (s : FinSet nat_cmp) (d q : ℕ)
    → cond (contains s q) 1 0 ≤ cond (contains (insert s d) q) 1 0
there s d q = subst (λ b. cond (contains s q) 1 0 ≤ cond b 1 0) (sym (has s d q))
    (no_fewer (eqb q d) (contains s q))

both : (a b c d : ℕ) → a ≤ b → c ≤ d → a + c ≤ b + d
both a b c d first next = omega (arith, first, next)

both_more : (a b c d : ℕ) → a ≤ b → suc c ≤ d → suc (a + c) ≤ b + d
both_more a b c d first next = omega (arith, first, next)

turned_on : (a b : Bool) (c d : ℕ) → a ≡ false → b ≡ true → c ≤ d
    → suc (cond a 1 0 + c) ≤ cond b 1 0 + d
turned_on true b c d off on low = cc
turned_on false true c d off on low = omega (arith, low)
turned_on false false c d off on low = cc

grows : (s : FinSet nat_cmp) (d n : ℕ) → count_below s n ≤ count_below (insert s d) n
grows s d zero = omega arith
grows s d (suc n) =
    both (cond (contains s n) 1 0) (cond (contains (insert s d) n) 1 0) (count_below s n)
    (count_below (insert s d) n) (there s d n) (grows s d n)

-- one more
pub more_below : (s : FinSet nat_cmp) (d n : ℕ) → contains s d ≡ false → d < n
    → suc (count_below s n) ≤ count_below (insert s d) n
more_below s d zero without low = absurd (omega (arith, low))
more_below s d (suc n) without low = elim (cases_eq n d) [
  | inl is ↦
      turned_on (contains s n) (contains (insert s d) n) (count_below s n)
      (count_below (insert s d) n) (ap (contains s) is ∙ without)
      (has s d n ∙ ap (λ t. t || contains s n) (eq-eqb n d is)) (grows s d n)
  | inr ne ↦
      both_more (cond (contains s n) 1 0) (cond (contains (insert s d) n) 1 0) (count_below s n)
      (count_below (insert s d) n) (there s d n)
      (more_below s d n without (omega (arith, low, ne)))
]
