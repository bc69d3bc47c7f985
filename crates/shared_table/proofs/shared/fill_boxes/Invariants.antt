use Rattle.std.specs.Prelude.{vec_len, vec_capacity}
use Rattle.std.specs.Vec.Iter.{into_iter_items, into_iter_len}
use Rattle.shared_table.specs.Begun.{BoxesSoFar}
use Rattle.shared_table.proofs.shared.fill_boxes.Given as goal

abbrev pub invariant-loop-cpu : goal.invariant-loop-cpu
invariant-loop-cpu g l =
    BoxesSoFar g.N.RunName.opening g.N.RunName.table l.cpu l.seat.table_id l.seat.me
    l.fn.seat.me.0.passes (into_iter_items l.rest) (into_iter_len l.rest) (vec_len l.boxes)
    (vec_capacity l.boxes)
