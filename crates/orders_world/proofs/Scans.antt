-- what holds of each number, one more; and of CPUs that aren't there
use Rattle.std.proofs.Common.{◌≡◌, ℕ, ◌+◌, ◌<◌, ◌≤◌, inl, inr, arith, subst, sym, length}
use Rattle.std.proofs.lemmas.Bool.{cases_lt}
use Rattle.std.proofs.lemmas.List.{get_or_past}
use Rattle.core_world.specs.World.{CpuRecord, World, cpu_of, no_cpu}

module _ (P : ℕ → Type 0) where
  pub one_more : (n : ℕ) → ((d : ℕ) → d < n → P d) → P n → (d : ℕ) → d < n + 1 → P d
  one_more n so_far this d low = elim (cases_lt d n) [
    | inl less ↦ so_far d less
    | inr high ↦ let same : n ≡ d = omega (arith, low, high) in subst P same this
  ]

  pub each_of : (n : ℕ) → ((d : ℕ) → d < n → P d) → ((d : ℕ) → n ≤ d → P d) → (d : ℕ) → P d
  each_of n so_far past d = elim (cases_lt d n) [
    | inl less ↦ so_far d less
    | inr high ↦ past d high
  ]

-- what holds of no CPU holds behind the last one
pub past_last : (w : World) (Q : CpuRecord → Type 0) → Q no_cpu → (d : ℕ) → length w.cpus ≤ d →
    Q (cpu_of w d)
past_last w Q none d high = subst Q (sym (get_or_past w.cpus d no_cpu high)) none
