use Rattle.std.proofs.Common.{◌<◌}
use Rattle.coverage.specs.Coverage.{Held}
use Rattle.core_world.specs.Covered.{machine_of}
use Rattle.orders_world.proofs.answering.holder.Given as goal

abbrev pub invariant-loop-level : goal.invariant-loop-level
invariant-loop-level l =
    (held : Held (machine_of l.world) l.cpu.0 l.wheel) → held.level < l.level → ⊥
