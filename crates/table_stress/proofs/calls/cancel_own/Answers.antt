use Rattle.table_stress.proofs.Staying.{cancel_stays}
use Rattle.table_stress.proofs.calls.cancel_own.Goals as goal

pub returns : goal.returns
returns g c =
    cancel_stays g.N.RunName.table g.N.RunName.opening c.args.timer.0 1 c.cancel.ensures.0
    c.args.pass.now c.cancel.new.pass c.cancel.result c.cancel.ensures.2
