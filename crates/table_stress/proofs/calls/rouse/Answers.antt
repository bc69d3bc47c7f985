use Rattle.table_stress.proofs.Staying.{wake_stays}
use Rattle.table_stress.proofs.calls.rouse.Goals as goal

pub returns : goal.returns
returns g c =
    wake_stays g.N.RunName.table g.N.RunName.opening c.args.pass.now c.wake.new.pass
    c.wake.result c.wake.ensures.ok c.wake.ensures.err
