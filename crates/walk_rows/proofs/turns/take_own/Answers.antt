use Rattle.std.proofs.Common.{sym, subst}
use Rattle.shared_rows.specs.shared_table.Ended.{IsPassAt}
use Rattle.walk_rows.proofs.turns.take_own.Goals as goal
use Rattle.walk_rows.proofs.turns.take_own.Goals.{in-Rest, in-Wake}

pub returns : goal.returns
returns g c k at = elim c.match-turn.branch [
  | in-Rest w ↦ subst (IsPassAt g.N.RunName.table k) (sym w.pass-is) (w.rest.ensures k at)
  | in-Wake w ↦ subst (IsPassAt g.N.RunName.table k) (sym w.pass-is) (w.rouse.ensures k at)
]
