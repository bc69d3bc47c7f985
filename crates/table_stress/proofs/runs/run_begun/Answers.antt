use Rattle.std.proofs.Common.{◌∙◌, arith, length}
use Rattle.table_stress.proofs.Rows.{all_begun, all_passes, count_begun}
use Rattle.table_stress.proofs.runs.run_begun.Goals as goal

pub all-requires-clause-each : goal.all-requires-clause-each
all-requires-clause-each g c κs within =
    all_begun g.N.RunName.table g.N.RunName.opening c.args.made c.args.passes.items
    c.requires.settled c.requires.passes

pub all-requires-clause-few : goal.all-requires-clause-few
all-requires-clause-few g c κs within =
    let count =
    count_begun g.N.RunName.table g.N.RunName.opening c.args.made c.args.passes.items
    c.requires.passes in
    omega (arith, count)

pub finish-core-requires : goal.finish-core-requires
finish-core-requires g c =
    all_passes g.N.RunName.table g.N.RunName.opening (length g.N.RunName.opening.cpus)
    c.in_ok-passes.passes.items
    (c.in_ok-passes.ensures.count
    ∙ count_begun g.N.RunName.table g.N.RunName.opening c.args.made c.args.passes.items
    c.requires.passes) c.in_ok-passes.ensures.each
