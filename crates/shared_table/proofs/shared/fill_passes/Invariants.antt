use Rattle.std.specs.Prelude.{vec_len, vec_capacity}
use Rattle.shared_table.specs.Begun.{PassesSoFar}
use Rattle.shared_table.proofs.shared.fill_passes.Given as goal

abbrev pub invariant-loop-cpu : goal.invariant-loop-cpu
invariant-loop-cpu g l =
    PassesSoFar g.N.RunName.opening g.N.RunName.table l.made l.cpu l.seat.table_id l.seat.me
    l.passes.items (vec_len l.passes) (vec_capacity l.passes)
