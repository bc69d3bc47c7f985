-- for crates above: sums over all CPUs, where one summand changed
use Rattle.std.proofs.Common.{◌≡◌, ◌≢◌, ℕ, zero, suc, ◌+◌, ◌*◌, ◌≤◌, ◌^◌, ◌<◌, refl, ap, inl, inr}
use Rattle.std.proofs.Common.{arith}
use Rattle.std.proofs.lemmas.Bool.{cases_eq}
use Rattle.shared_rule.specs.Shows.{sum_to}

pub sum_same : (n : ℕ) (f h : ℕ → ℕ) → ((d : ℕ) → d < n → h d ≡ f d) → sum_to n h ≡ sum_to n f
sum_same zero f h e = refl
sum_same (suc n) f h e =
    let a = e n (omega arith) in
    let b = sum_same n f h (λ d low. e d (omega arith)) in
    omega (arith, a, b)

pub sum_swap : (n c : ℕ) (f h : ℕ → ℕ) → c < n → ((d : ℕ) → d ≢ c → h d ≡ f d)
    → sum_to n h + f c ≡ sum_to n f + h c
sum_swap zero c f h low e = absurd (omega arith)
sum_swap (suc n) c f h low e =
    elim (cases_eq n c) [
      | inl is ↦
          let a = sum_same n f h (λ d below. e d (omega arith)) in
          let p : f n ≡ f c = ap f is in
          let q : h n ≡ h c = ap h is in
          omega (arith, a, p, q)
      | inr ne ↦
          let a = e n ne in
          let b = sum_swap n c f h (omega arith) e in
          omega (arith, a, b)
    ]

pub sum_below : (n k : ℕ) (f : ℕ → ℕ) → ((d : ℕ) → f d < 2 ^ 32) → sum_to n f ≤ n * 2 ^ 32
sum_below zero k f e = omega arith
sum_below (suc n) k f e =
    let a = e n in
    let b = sum_below n k f e in
    omega (arith, a, b)
