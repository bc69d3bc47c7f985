use Rattle.std.proofs.Common.{subst, arith}
use Rattle.std.proofs.lemmas.Result.{err_from_is_err_and}
use Rattle.shared_acts.proofs.Gaining.{no_piece}
use Rattle.shared_acts.proofs.OwnDrains.{err_as}
use Rattle.remote_expiry.specs.Trying.{HasRounds, IsLookRound, StopsPass}
use Rattle.remote_expiry.proofs.Levels.{few_rounds, no_round, one_round, round_work, rounds_done}
use Rattle.remote_expiry.proofs.Levels.{rounds_off, rounds_up}
use Rattle.remote_expiry.proofs.looking.look_at.Goals as goal

pub loop-turn-init : goal.loop-turn-init
loop-turn-init g c =
    let table = g.N.RunName.table in
    let held = c.args.pass.now in
    let w = c.requires.at_work in
    no_round table g.N.RunName.opening (g.J.Jobs.replies c.args.jobs.now) c.new-tried.result held
    c.args.runs.now.runs c.new-tried.ensures (no_piece table held w.pass w.seated)

pub look_once-requires-clause-at_work : goal.look_once-requires-clause-at_work
look_once-requires-clause-at_work g c =
    round_work g.N.RunName.table g.N.RunName.opening (g.J.Jobs.replies c.args.jobs.now)
    c.loop-turn._turn c.loop-turn.tried c.args.pass.now c.loop-turn.pass c.args.runs.now.runs
    c.loop-turn.runs.runs c.loop-turn.invariant c.law_shape.ensures.many c.requires.at_work

pub returns-in_err-look_once : goal.returns-in_err-look_once
returns-in_err-look_once g c =
    let table = g.N.RunName.table in
    let o = g.N.RunName.opening in
    let jobs = g.J.Jobs.replies c.args.jobs.now in
    let held = c.args.pass.now in
    let after = c.look_once.new.pass in
    let first = c.args.runs.now.runs in
    let last = c.look_once.new.runs.runs in
    let e = err_from_is_err_and c.from_residual.result c.from_residual.ensures.1 in
    err_as c.from_residual.result (HasRounds table o jobs c.args.level held after first last)
    (StopsPass table o jobs 512 held after first last) e.0 e.1
    (rounds_off table o jobs c.loop-turn._turn c.loop-turn.tried held c.loop-turn.pass after first
    c.loop-turn.runs.runs last c.loop-turn.invariant c.law_shape.ensures.many
    c.in_err-look_once.ensures)

pub returns-in-Up : goal.returns-in-Up
returns-in-Up g c =
    let table = g.N.RunName.table in
    let o = g.N.RunName.opening in
    let jobs = g.J.Jobs.replies c.args.jobs.now in
    let tried = c.loop-turn.tried in
    let mid = c.loop-turn.pass in
    let after = c.look_once.new.pass in
    let runs = c.loop-turn.runs.runs in
    let last = c.look_once.new.runs.runs in
    let sees = subst (IsLookRound table o jobs c.args.level tried c.look_once.new.tried mid after runs
    last) c.in-Up.is c.in_ok-look_once.ensures in
    rounds_up table o jobs c.loop-turn._turn c.args.level tried c.args.pass.now mid after
    c.args.runs.now.runs runs last c.loop-turn.invariant c.law_shape.ensures.many sees.0 sees.1

pub returns-in-Done : goal.returns-in-Done
returns-in-Done g c =
    let table = g.N.RunName.table in
    let o = g.N.RunName.opening in
    let jobs = g.J.Jobs.replies c.args.jobs.now in
    let tried = c.loop-turn.tried in
    let mid = c.loop-turn.pass in
    let after = c.look_once.new.pass in
    let runs = c.loop-turn.runs.runs in
    let last = c.look_once.new.runs.runs in
    let sees = subst (IsLookRound table o jobs c.args.level tried c.look_once.new.tried mid after runs
    last) c.in-Done.is c.in_ok-look_once.ensures in
    rounds_done table o jobs c.loop-turn._turn c.args.level tried c.args.pass.now mid after
    c.args.runs.now.runs runs last c.loop-turn.invariant c.law_shape.ensures.many sees.0 sees.1

pub loop-turn-preserved : goal.loop-turn-preserved
loop-turn-preserved g c =
    let table = g.N.RunName.table in
    let o = g.N.RunName.opening in
    let jobs = g.J.Jobs.replies c.args.jobs.now in
    let tried = c.loop-turn.tried in
    let more = c.look_once.new.tried in
    let mid = c.loop-turn.pass in
    let after = c.look_once.new.pass in
    let runs = c.loop-turn.runs.runs in
    let last = c.look_once.new.runs.runs in
    one_round table o jobs c.loop-turn._turn _ tried more c.args.pass.now mid after
    c.args.runs.now.runs runs last c.loop-turn.invariant
    (subst (IsLookRound table o jobs c.args.level tried more mid after runs last) c.in-Again.is
    c.in_ok-look_once.ensures) (omega arith)

pub unreachable-requires : goal.unreachable-requires
unreachable-requires g c =
    let many = c.law_shape.ensures.many in
    let few = few_rounds g.N.RunName.table g.N.RunName.opening
    (g.J.Jobs.replies c.args.jobs.now) c.loop-turn._turn c.loop-turn.tried c.args.pass.now
    c.loop-turn.pass c.args.runs.now.runs c.loop-turn.runs.runs c.loop-turn.invariant in
    omega (arith, c.loop-turn-test.false, few, many)

pub look_once-requires-clause-now : goal.look_once-requires-clause-now
look_once-requires-clause-now g c = c.requires.now

pub look_once-requires-clause-in_time : goal.look_once-requires-clause-in_time
look_once-requires-clause-in_time g c = c.requires.in_time
