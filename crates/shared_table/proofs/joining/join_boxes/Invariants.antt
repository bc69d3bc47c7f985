use Rattle.std.specs.Prelude.{vec_capacity}
use Rattle.shared_table.specs.Joined.{BoxesLeft}
use Rattle.shared_table.proofs.joining.join_boxes.Given as goal

abbrev pub invariant-loop-cpu_box : goal.invariant-loop-cpu_box
invariant-loop-cpu_box g l =
    BoxesLeft g.N.RunName.opening g.N.RunName.table l.seat.table_id l.seat.me l.fn.seat.me
    l.cpu_box-iterator.rest.items l.fn.boxes.items l.cpus.items l.fn.cpus.items
    (vec_capacity l.cpus)
