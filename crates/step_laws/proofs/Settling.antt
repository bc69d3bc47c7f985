-- each CPU of a core at rest, one CPU more
use Rattle.std.proofs.Common.{◌≡◌, inl, inr, ℕ, ◌<◌, ◌≤◌, false, None, length, ap, arith}
use Rattle.std.proofs.lemmas.Bool.{cases_lt}
use Rattle.std.proofs.lemmas.List.{get_or_past}
use Rattle.core_world.specs.Covered.{IsSettled}
use Rattle.core_world.specs.World.{CpuRecord, World, cpu_of, no_cpu}

pub record RestsAt (w : World) (d : ℕ) : Type 0 where
  pub free : (cpu_of w d).walk ≡ None
  pub outside : (cpu_of w d).inside ≡ false

rests_past : (w : World) (d : ℕ) → length w.cpus ≤ d → RestsAt w d
rests_past w d past = record {
  free = ap (λ (y : CpuRecord). y.walk) (get_or_past w.cpus d no_cpu past);
  outside = ap (λ (y : CpuRecord). y.inside) (get_or_past w.cpus d no_cpu past);
}

pub all_rest : (w : World) (n : ℕ) → length w.cpus ≤ n → ((d : ℕ) → d < n → RestsAt w d) →
    IsSettled w
all_rest w n all each =
    let at : (d : ℕ) → RestsAt w d = λ d. elim (cases_lt d (length w.cpus)) [
      | inl low ↦ each d (omega (arith, low, all))
      | inr past ↦ rests_past w d past
    ] in
    record { free = λ d. (at d).free; outside = λ d. (at d).outside }
