use Rattle.shared_table.specs.Joined.{PassesLeft}
use Rattle.shared_table.proofs.joining.join_passes.Given as goal

abbrev pub invariant-loop-pass : goal.invariant-loop-pass
invariant-loop-pass g l =
    PassesLeft g.N.RunName.table l.seat.table_id l.seat.me l.fn.seat.me
    l.pass-iterator.rest.items l.fn.passes.items
