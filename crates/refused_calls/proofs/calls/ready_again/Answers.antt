use Rattle.std.proofs.Common.{subst, sym}
use Rattle.shared_rows.specs.shared_table.Ended.{HasNoBaseBehind}
use Rattle.refused_calls.proofs.calls.ready_again.Goals as goal

pub prepare-requires-in-Err-clause-whole : goal.prepare-requires-in-Err-clause-whole
prepare-requires-in-Err-clause-whole c =
    subst HasNoBaseBehind (sym c.in-Err.ensures.err) c.requires.whole
