-- the bases of each CPU, those that aren't there too
use Rattle.std.proofs.Common.{ℕ, ◌<◌, ◌≤◌, length, sym, subst, arith, inl, inr}
use Rattle.std.proofs.lemmas.Bool.{cases_lt}
use Rattle.tm_base.specs.declared.names.Class.TheVariants.{Pinned, Global, Deferrable}
use Rattle.wheel_core.specs.PlainBase.{NoneBehind}
use Rattle.cpu_bases.specs.CpuBases.{CpuBases, base_of, empty_bases}
use Rattle.core_world.specs.World.{CpuRecord, World, cpu_of}
use Rattle.core_machine.proofs.step_play.Queues.Sights.{past_of}
use Rattle.hotplug.specs.Settled.{AllWhole, AreBasesWhole}

empty_whole : AreBasesWhole empty_bases
empty_whole Pinned = λ wheel is. omega arith
empty_whole Global = λ wheel is. omega arith
empty_whole Deferrable = λ wheel is. omega arith

-- the three bases of a CPU
pub whole_by : (bases : CpuBases) → NoneBehind (base_of Pinned bases)
    → NoneBehind (base_of Global bases) → NoneBehind (base_of Deferrable bases) → AreBasesWhole bases
whole_by bases pinned global deferrable Pinned = pinned
whole_by bases pinned global deferrable Global = global
whole_by bases pinned global deferrable Deferrable = deferrable

pub whole_up_to : (w : World) (n : ℕ) → length w.cpus ≤ n →
    ((d : ℕ) → d < n → AreBasesWhole (cpu_of w d).bases) → AllWhole w
whole_up_to w n all each d = elim (cases_lt d (length w.cpus)) [
  | inl low ↦ each d (omega (arith, low, all))
  | inr past ↦ subst (λ (y : CpuRecord). AreBasesWhole y.bases) (sym (past_of w d past)) empty_whole
]
