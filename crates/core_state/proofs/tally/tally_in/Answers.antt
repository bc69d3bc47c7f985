use Rattle.std.proofs.Common.{length}
use Rattle.core_state.proofs.Tallies.{none_counted}
use Rattle.core_state.proofs.tally.tally_in.Goals as goal

pub count_all-requires-clause-none : goal.count_all-requires-clause-none
count_all-requires-clause-none g c =
    none_counted c.args.tree.now c.args.cpus.now.items (length c.args.room.marks) c.clear.new.self
    c.clear.ensures.marks c.clear.ensures.online c.requires.room
