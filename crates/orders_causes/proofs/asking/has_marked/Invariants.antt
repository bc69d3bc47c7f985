use Rattle.std.proofs.Common.{◌≡◌, ◌<◌, ℕ, Some}
use Rattle.core_world.specs.World.{cpu_of}
use Rattle.orders_causes.proofs.asking.has_marked.Given as goal

abbrev pub invariant-loop-other : goal.invariant-loop-other
invariant-loop-other l =
    (d : ℕ) → d < l.other → (cpu_of l.world d).mark ≡ Some l.cpu.0 → ⊥
