use Rattle.walk_rows.proofs.Staying.{wake_stays}
use Rattle.walk_rows.proofs.turns.rouse.Goals as goal

pub returns : goal.returns
returns g c =
    wake_stays g.N.RunName.table c.args.pass.now c.wake.new.pass c.wake.result
    c.wake.ensures.ok c.wake.ensures.err
