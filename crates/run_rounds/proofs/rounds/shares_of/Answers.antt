use Rattle.std.proofs.Common.{◌∙◌}
use Rattle.std.proofs.lemmas.Result.{IfOk-weaker}
use Rattle.run_shares.specs.Tasks.{RoundPlan}
use Rattle.run_shares.proofs.Parting.{all_may}
use Rattle.run_rounds.proofs.rounds.shares_of.Goals as goal

pub do_all-requires-clause-may : goal.do_all-requires-clause-may
do_all-requires-clause-may g c κs within =
    let plan : RoundPlan = record { due = c.args.due.now; ops = c.args.ops.now } in
    all_may g.N.RunName.table g.N.RunName.opening c.args.now plan c.requires.may
    c.in_ok-tasks.tasks.items c.in_ok-tasks.ensures

pub returns : goal.returns
returns g c =
    let plan : RoundPlan = record { due = c.args.due.now; ops = c.args.ops.now } in
    let tasks = c.in_ok-tasks.ensures in
    IfOk-weaker c.gather.result _ _
    (λ r gathered. record {
      shares = c.in_ok-shares.shares.items;
      count = c.in_ok-shares.ensures.count ∙ tasks.count;
      each = c.in_ok-shares.ensures.each plan tasks.each;
      gathered = gathered;
    })
    c.gather.ensures
