use Rattle.std.proofs.Common.{◌≡◌, length}
use Rattle.cpu_bases.specs.CpuBases.{base_of}
use Rattle.core_world.specs.World.{cpu_of}
use Rattle.core_machine.proofs.Draining.Turns.{DrainsSoFar}
use Rattle.core_machine.proofs.timers.draining.hand_all.Given as goal

abbrev pub invariant-loop-items : goal.invariant-loop-items
invariant-loop-items g l = record {
  so_far : DrainsSoFar l.home.0 l.class l.runner.0 l.fn.core l.core l.items.items;
  clock : l.core.clock ≡ l.fn.core.clock;
}

abbrev pub decreases-loop-items : goal.decreases-loop-items
decreases-loop-items g l = length (base_of l.class (cpu_of l.core l.home.0).bases).items
