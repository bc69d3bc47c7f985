-- the binary logarithm rounded up, and the levels that follow from it
use Rattle.std.proofs.Common.{◌≡◌, ℕ, zero, suc, ◌+◌, ◌*◌, ◌/◌, ◌^◌, ◌<◌, ◌≤◌, true, eqb, leb, refl, sym, ◌∙◌, ap, subst, arith, add-zero, zero-add, ⊎_elim}
use Rattle.std.specs.Prelude.{nat_le, if◌then◌else◌}
use Rattle.std.proofs.lemmas.Bool.{leb-true, leb-false, eqb-true, agree_below_at, cond_both, cases_eq, cases_lt}
use Rattle.std.proofs.lemmas.Bool.Decides.{nat_tests}
use Rattle.std.proofs.lemmas.Nat.{pow-add}
use Rattle.std.proofs.Math.Nat.{pow-suc, pow-le-pow_right}
use Rattle.tree_plan.specs.Shape.{least_power, log2up, levels_for}

above_itself : (x : ℕ) → x + 1 ≤ 2 ^ x
above_itself zero = omega arith
above_itself (suc x) = omega (arith, above_itself x, pow-suc 2 x)

power_found : (n k x : ℕ) → x ≤ 2 ^ (k + n) → x ≤ 2 ^ least_power n k x
unfolding least_power
power_found zero k x h = rw add-zero at h
power_found (suc n) k x h =
    cond_both (leb x (2 ^ k)) k (least_power n (suc k) x) (λ m. x ≤ 2 ^ m) (leb-true x (2 ^ k)) (λ _. power_found n (suc k) x (subst (λ m. x ≤ 2 ^ m) (omega arith) h))

power_within : (n k x : ℕ) → least_power n k x ≤ k + n
unfolding least_power
power_within zero k x = omega arith
power_within (suc n) k x =
    cond_both (leb x (2 ^ k)) k (least_power n (suc k) x) (λ r. r ≤ k + suc n) (λ _. omega arith) (λ _. omega (arith, power_within n (suc k) x))

past : (k x m : ℕ) → k ≤ m → x ≤ 2 ^ m → 2 ^ k < x → suc k ≤ m
past k x m h e above =
    ⊎_elim (λ same. absurd (omega (arith, ap (λ n. 2 ^ n) same))) (λ other. omega arith) (cases_eq k m)

power_least : (n k x m : ℕ) → k ≤ m → x ≤ 2 ^ m → m ≤ k + n → least_power n k x ≤ m
unfolding least_power
power_least zero k x m h e f = h
power_least (suc n) k x m h e f =
    cond_both (leb x (2 ^ k)) k (least_power n (suc k) x) (λ r. r ≤ m) (λ _. h) (λ above. power_least n (suc k) x m (past k x m h e (leb-false x (2 ^ k) above)) e (omega arith))

-- x isn't above that power of two
pub log2up_reaches : (x : ℕ) → x ≤ 2 ^ log2up x
unfolding log2up
log2up_reaches x = power_found x 0 x (rw zero-add (omega (arith, above_itself x)))

cube : (k : ℕ) → 8 ^ k ≡ 2 ^ (3 * k)
cube zero = refl
cube (suc k) =
    pow-suc 8 k ∙ (ap (λ n. n * 8) (cube k) ∙ (sym (pow-add 2 (3 * k) 3) ∙ ap (λ n. 2 ^ n) (omega arith)))

-- and each such power is at least as high
pub log2up_least : (x m : ℕ) → x ≤ 2 ^ m → log2up x ≤ m
unfolding log2up
log2up_least x m e = ⊎_elim (λ low. power_least x 0 x m (omega arith) e (omega arith)) (λ high. omega (arith, power_within x 0 x)) (cases_lt m x)

-- so many levels of eight are enough
pub levels_reach : (x : ℕ) → x ≤ 8 ^ levels_for x
unfolding levels_for
levels_reach x =
    let wide : 2 ^ log2up x ≤ 2 ^ (3 * ((log2up x + 2) / 3)) = pow-le-pow_right (omega arith) (omega arith) in
    omega (arith, log2up_reaches x, cube ((log2up x + 2) / 3), wide)

abbrev steps : ℕ → ℕ
steps x = if nat_le x 1 then 0 else (if nat_le x 8 then 1 else (if nat_le x 64 then 2 else 3))

pub levels_in_steps : (x : ℕ) → x < 256 → levels_for x ≡ steps x
unfolding levels_for log2up least_power
levels_in_steps x h = eqb-true _ _ (agree_below_at (λ x. eqb (levels_for x) (steps x)) (λ _. true) 256 x refl h)

pub levels_few : (x : ℕ) → x < 256 → levels_for x ≤ 3
levels_few x h = grind (arith, nat_tests, levels_in_steps x h)

pub levels_of_node : (x : ℕ) → x ≤ 64 → levels_for x ≤ 2
levels_of_node x h = grind (arith, nat_tests, levels_in_steps x (omega arith))

pub levels_of_few : (x : ℕ) → x ≤ 8 → levels_for x ≤ 1
levels_of_few x h = grind (arith, nat_tests, levels_in_steps x (omega arith))
