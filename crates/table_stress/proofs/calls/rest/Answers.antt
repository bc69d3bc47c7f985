use Rattle.table_stress.proofs.Staying.{rest_stays}
use Rattle.table_stress.proofs.calls.rest.Goals as goal

pub returns : goal.returns
returns g c =
    rest_stays g.N.RunName.table g.N.RunName.opening c.args.pass.now c.go_idle.new.pass
    c.go_idle.result c.go_idle.ensures.ok c.go_idle.ensures.err
