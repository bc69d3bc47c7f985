use Rattle.std.proofs.Common.{◌≡◌, length}
use Rattle.std.specs.Prelude.{All}
use Rattle.cpu_bases.specs.CpuBases.{RoomyBases, empty_bases}
use Rattle.core_plays.proofs.starting.bases_of_all.Given as goal

abbrev pub invariant-loop-cpu : goal.invariant-loop-cpu
invariant-loop-cpu l =
    record {
      count : length l.bases.items ≡ l._cpu;
      empty : All (λ (b : RoomyBases). b.plain ≡ empty_bases) l.bases.items;
    }
