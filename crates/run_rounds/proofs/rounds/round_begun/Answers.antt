use Rattle.run_shares.specs.Tasks.{RoundPlan}
use Rattle.run_shares.proofs.Closing.{all_passes, each_did, is_round}
use Rattle.run_rounds.proofs.rounds.round_begun.Goals as goal

pub finish-requires : goal.finish-requires
finish-requires g c =
    let table = g.N.RunName.table in
    let o = g.N.RunName.opening in
    let jobs = g.J.Jobs.replies c.args.jobs.now in
    let plan : RoundPlan = record { due = c.args.due.now; ops = c.args.ops.now } in
    let done = c.in-Ok.ensures in
    all_passes table o jobs plan done.shares c.in-Ok.passes.items c.in-Ok.lines.items
    (each_did table o jobs plan 0 done.shares done.each done.gathered.ended) done.count done.gathered

pub returns-in-Ok : goal.returns-in-Ok
returns-in-Ok g c =
    let table = g.N.RunName.table in
    let o = g.N.RunName.opening in
    let jobs = g.J.Jobs.replies c.args.jobs.now in
    let plan : RoundPlan = record { due = c.args.due.now; ops = c.args.ops.now } in
    let done = c.in-Ok.ensures in
    is_round table o jobs plan done.shares c.in-Ok.passes.items c.in-Ok.lines.items
    (each_did table o jobs plan 0 done.shares done.each done.gathered.ended) done.count done.gathered c.finish.result
    c.law_rest.ensures c.finish.ensures.end c.finish.ensures.whole
