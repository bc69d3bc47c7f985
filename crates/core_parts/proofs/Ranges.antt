-- numbers that are in range
use Rattle.std.proofs.Common.{inl, inr, ℕ, zero, suc, ◌-◌, ◌^◌, ◌<◌, ◌≤◌, Bool, true, false, refl}
use Rattle.std.proofs.Common.{arith}
use Rattle.std.specs.Prelude.{if◌then◌else◌}
use Rattle.std.proofs.lemmas.List.Elements.{All-contains}
use Rattle.tm_base.specs.declared.names.TheConstants.{NEVER, TIME_LIMIT}
use Rattle.tm_base.specs.declared.names.Class.TheVariants.{Global}
use Rattle.core_world.specs.group_word.Group.{IsActive}
use Rattle.core_world.specs.cpu_bases.declared.entry.Entry.{Entry}
use Rattle.core_world.specs.cpu_bases.CpuBases.{CpuBases, IsConsistent, events_of, first_expiry}
use Rattle.core_world.specs.cpu_bases.Laws.{FirstWasArmed}

first_in_range : FirstWasArmed → (cpu : CpuBases) → IsConsistent cpu → first_expiry Global cpu < 2 ^ 48
first_in_range law cpu consistent = elim (law cpu Global consistent) [
  | inl never ↦ omega (arith, never)
  | inr armed ↦
      let at = All-contains (λ (e : Entry). e.wheel ≤ TIME_LIMIT) cpu.journal armed.0
      consistent.in_time armed.1 in
      let same = armed.4 in
      omega (arith, at, same)
]

either : (b : Bool) (first : ℕ) → first < 2 ^ 48 → (if b then first else NEVER) < 2 ^ 48
either true first low = low
either false first low = omega arith

-- what a CPU tells its leaf
pub next_in_range : FirstWasArmed → (cpu : CpuBases) → IsConsistent cpu
    → (events_of cpu).next < 2 ^ 48
next_in_range law cpu consistent = either _ _ (first_in_range law cpu consistent)

-- of one child or more, the first is there
pub first_active : (n : ℕ) → 1 ≤ n → n ≤ 8 → IsActive (2 ^ n - 1) 0
first_active zero some few = absurd (omega arith)
first_active (suc zero) some few = refl
first_active (suc (suc zero)) some few = refl
first_active (suc (suc (suc zero))) some few = refl
first_active (suc (suc (suc (suc zero)))) some few = refl
first_active (suc (suc (suc (suc (suc zero))))) some few = refl
first_active (suc (suc (suc (suc (suc (suc zero)))))) some few = refl
first_active (suc (suc (suc (suc (suc (suc (suc zero))))))) some few = refl
first_active (suc (suc (suc (suc (suc (suc (suc (suc zero)))))))) some few = refl
first_active (suc (suc (suc (suc (suc (suc (suc (suc (suc n))))))))) some few = absurd (omega arith)
