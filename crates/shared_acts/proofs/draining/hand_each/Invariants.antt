use Rattle.std.proofs.Common.{◌≤◌, length}
use Rattle.std.specs.Prelude.{vec_capacity}
use Rattle.cpu_bases.specs.CpuBases.{base_of}
use Rattle.shared_acts.proofs.Handing.{HandsSoFar}
use Rattle.shared_acts.proofs.draining.hand_each.Given as goal

abbrev pub invariant-loop-item : goal.invariant-loop-item
invariant-loop-item g l = record {
  so_far : HandsSoFar g.N.RunName.opening l.class l.fn.part l.part l.items.items;
  places : vec_capacity l.fn.items ≤ vec_capacity l.items;
}

abbrev pub decreases-loop-item : goal.decreases-loop-item
decreases-loop-item g l = length (base_of l.class l.part.box.own.bases).items
