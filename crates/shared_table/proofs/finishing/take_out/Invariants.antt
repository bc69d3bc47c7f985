use Rattle.std.proofs.Common.{◌+◌}
use Rattle.std.specs.Prelude.{vec_capacity, vec_len}
use Rattle.std.specs.Vec.Iter.{into_iter_len}
use Rattle.shared_table.specs.Ended.{TakenSoFar}
use Rattle.shared_table.proofs.finishing.take_out.Given as goal

abbrev pub invariant-loop-locked : goal.invariant-loop-locked
invariant-loop-locked g l =
    TakenSoFar (into_iter_len l.locked-iterator) (vec_len l.taken) (vec_capacity l.taken)
    (vec_len l.fn.taken + vec_len l.fn.boxes)
