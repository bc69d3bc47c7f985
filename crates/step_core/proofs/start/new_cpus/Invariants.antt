use Rattle.std.proofs.Common.{◌≡◌, ◌++◌, length}
use Rattle.std.specs.Prelude.{All, replicate}
use Rattle.cpu_bases.specs.CpuBases.{RoomyBases, empty_bases}
use Rattle.core_world.specs.Start.{start_cpu}
use Rattle.step_core.proofs.start.new_cpus.Given as goal

abbrev pub invariant-loop-of_cpu : goal.invariant-loop-of_cpu
invariant-loop-of_cpu g l =
    record {
      made : l.cpus.items ++ replicate (length l.of_cpu-iterator.rest.items) start_cpu
          ≡ replicate (length l.fn.bases.items) start_cpu;
      empty : All (λ (b : RoomyBases). b.plain ≡ empty_bases) l.of_cpu-iterator.rest.items;
    }
