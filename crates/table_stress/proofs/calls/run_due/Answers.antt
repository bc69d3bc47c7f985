use Rattle.table_stress.proofs.Staying.{interrupt_stays, rests_first}
use Rattle.table_stress.proofs.calls.run_due.Goals as goal

pub interrupt-ended-requires-clause-rest : goal.interrupt-ended-requires-clause-rest
interrupt-ended-requires-clause-rest g c =
    rests_first g.N.RunName.table g.N.RunName.opening c.requires.one.cpu c.args.pass.now
    c.requires.one.at

pub returns : goal.returns
returns g c =
    interrupt_stays g.N.RunName.table g.N.RunName.opening (g.J.Jobs.replies c.args.jobs.now)
    c.args.pass.now c.interrupt-ended.new.pass _ _ c.interrupt-ended.result
    c.interrupt-ended.ensures
