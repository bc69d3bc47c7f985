-- for crates above: where the bases of all CPUs that there are have nothing behind their clocks
use Rattle.std.proofs.Common.{ℕ, ◌<◌, ◌≤◌, length, sym, subst, arith, inl, inr}
use Rattle.std.proofs.lemmas.Bool.{cases_lt}
use Rattle.std.proofs.lemmas.List.{get_or_past}
use Rattle.std.proofs.lemmas.Option.{none-some}
use Rattle.tm_base.specs.declared.names.Class.{Class}
use Rattle.tm_base.specs.declared.names.Class.TheVariants.{Pinned, Global, Deferrable}
use Rattle.wheel_core.specs.PlainBase.{NoneBehind}
use Rattle.cpu_bases.specs.CpuBases.{base_of}
use Rattle.core_world.specs.World.{CpuRecord, World, cpu_of, no_cpu}
use Rattle.shared_table.specs.Ended.{HasNoBaseBehind}
use Rattle.shared_table.specs.Readied.{HasNoneBehind}

-- a CPU that there isn't has no base behind
pub nothing_behind : (class : Class) → NoneBehind (base_of class no_cpu.bases)
nothing_behind Pinned = λ wheel at. absurd (none-some wheel at)
nothing_behind Global = λ wheel at. absurd (none-some wheel at)
nothing_behind Deferrable = λ wheel at. absurd (none-some wheel at)

-- so where no CPU that there is has one, no CPU has
pub behind_nowhere : (w : World) (n : ℕ) → length w.cpus ≤ n
    → ((d : ℕ) → d < n → HasNoneBehind (cpu_of w d).bases) → HasNoBaseBehind w
behind_nowhere w n many each d = elim (cases_lt d n) [
  | inl low ↦ each d low
  | inr past ↦ subst (λ (y : CpuRecord). HasNoneBehind y.bases)
      (sym (get_or_past w.cpus d no_cpu (omega (arith, past, many)))) nothing_behind
]
