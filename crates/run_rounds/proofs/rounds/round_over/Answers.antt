use Rattle.std.proofs.Common.{ap, subst, ◌∙◌}
use Rattle.core_world.specs.World.{World}
use Rattle.run_shares.specs.shared_table.Begun.{begun_passes}
use Rattle.run_shares.specs.Tasks.{RoundPlan}
use Rattle.run_shares.specs.Progress.{MayRound}
use Rattle.run_rounds.proofs.rounds.round_over.Goals as goal

pub begin-requires-clause-table : goal.begin-requires-clause-table
begin-requires-clause-table g c = c.requires.table

pub begin-requires-clause-opening : goal.begin-requires-clause-opening
begin-requires-clause-opening g c = c.requires.opening

pub round_begun-requires-clause-may : goal.round_begun-requires-clause-may
round_begun-requires-clause-may g c κs within =
    let plan : RoundPlan = record { due = c.args.due.now; ops = c.args.ops.now } in
    subst (λ (o : World). MayRound o c.args.now plan) c.requires.opening c.requires.may

pub round_begun-requires-clause-passes : goal.round_begun-requires-clause-passes
round_begun-requires-clause-passes g c κs within =
    c.in-Ok.ensures.passes
    ∙ ap (begun_passes g.N.RunName.table g.N.RunName.opening) c.requires.made

pub returns-in-Ok : goal.returns-in-Ok
returns-in-Ok g c = rw c.requires.opening c.round_begun.ensures

pub returns-in-Err : goal.returns-in-Err
returns-in-Err g c = tt
