use Rattle.std.proofs.Common.{ap, ◌∙◌, arith}
use Rattle.std.proofs.lemmas.Result.{err_from_is_err_and}
use Rattle.tree_plan.specs.Paths.{level_count_of}
use Rattle.shared_acts.proofs.Gaining.{no_piece}
use Rattle.shared_acts.proofs.OwnDrains.{err_as}
use Rattle.remote_expiry.specs.Trying.{HasClimbedLevels, StopsPass}
use Rattle.remote_expiry.proofs.Levels.{all_levels, below, further_up, last_level, level_off}
use Rattle.remote_expiry.proofs.Levels.{level_work, no_further, no_level, one_level, up_to}
use Rattle.remote_expiry.proofs.looking.look_up.Goals as goal

pub loop-level-init : goal.loop-level-init
loop-level-init g c =
    let table = g.N.RunName.table in
    let held = c.args.pass.now in
    let w = c.requires.at_work in
    no_level table g.N.RunName.opening (g.J.Jobs.replies c.args.jobs.now) held
    c.args.runs.now.runs (no_piece table held w.pass w.seated)

pub look_at-requires-clause-at_work : goal.look_at-requires-clause-at_work
look_at-requires-clause-at_work g c =
    let levels = c.levels-level-end.ensures ∙ ap level_count_of c.run-2.result.now.fits.shape in
    level_work g.N.RunName.table g.N.RunName.opening (g.J.Jobs.replies c.args.jobs.now)
    c.loop-level.level c.args.pass.now c.loop-level.pass c.args.runs.now.runs
    c.loop-level.runs.runs c.loop-level.invariant
    (below c.loop-level.level _ _ levels c.loop-level-test.true) c.law_shape.ensures.low
    c.requires.at_work

pub returns-in_err-look_at : goal.returns-in_err-look_at
returns-in_err-look_at g c =
    let table = g.N.RunName.table in
    let o = g.N.RunName.opening in
    let jobs = g.J.Jobs.replies c.args.jobs.now in
    let held = c.args.pass.now in
    let after = c.look_at.new.pass in
    let first = c.args.runs.now.runs in
    let last = c.look_at.new.runs.runs in
    let levels = c.levels-level-end.ensures ∙ ap level_count_of c.run-2.result.now.fits.shape in
    let e = err_from_is_err_and c.from_residual.result c.from_residual.ensures.1 in
    err_as c.from_residual.result (λ done. HasClimbedLevels table o jobs held after first last)
    (StopsPass table o jobs 1536 held after first last) e.0 e.1
    (level_off table o jobs c.loop-level.level held c.loop-level.pass after first
    c.loop-level.runs.runs last c.loop-level.invariant
    (below c.loop-level.level _ _ levels c.loop-level-test.true) c.law_shape.ensures.low
    c.in_err-look_at.ensures)

pub returns-then-not-branch : goal.returns-then-not-branch
returns-then-not-branch g c =
    let levels = c.levels-level-end.ensures ∙ ap level_count_of c.run-2.result.now.fits.shape in
    let table = g.N.RunName.table in
    let o = g.N.RunName.opening in
    let jobs = g.J.Jobs.replies c.args.jobs.now in
    let now = c.loop-level.pass in
    let after = c.look_at.new.pass in
    let runs = c.loop-level.runs.runs in
    let last = c.look_at.new.runs.runs in
    last_level table o jobs c.loop-level.level c.args.pass.now now after c.args.runs.now.runs runs
    last c.loop-level.invariant (below c.loop-level.level _ _ levels c.loop-level-test.true)
    c.law_shape.ensures.low
    (no_further table o jobs c.loop-level.level now after runs last c.in_ok-look_at.field-0
    c.if-not-branch.true c.in_ok-look_at.ensures)

pub loop-level-preserved : goal.loop-level-preserved
loop-level-preserved g c =
    let levels = c.levels-level-end.ensures ∙ ap level_count_of c.run-2.result.now.fits.shape in
    let table = g.N.RunName.table in
    let o = g.N.RunName.opening in
    let jobs = g.J.Jobs.replies c.args.jobs.now in
    let now = c.loop-level.pass in
    let after = c.look_at.new.pass in
    let runs = c.loop-level.runs.runs in
    let last = c.look_at.new.runs.runs in
    one_level table o jobs c.loop-level.level _ c.args.pass.now now after c.args.runs.now.runs runs
    last c.loop-level.invariant (below c.loop-level.level _ _ levels c.loop-level-test.true)
    (further_up table o jobs c.loop-level.level now after runs last c.in_ok-look_at.field-0
    c.if-not-branch.false c.in_ok-look_at.ensures) (omega arith)

pub returns : goal.returns
returns g c =
    let levels = c.levels-level-end.ensures ∙ ap level_count_of c.run-2.result.now.fits.shape in
    all_levels g.N.RunName.table g.N.RunName.opening (g.J.Jobs.replies c.args.jobs.now)
    c.loop-level.level c.args.pass.now c.loop-level.pass c.args.runs.now.runs
    c.loop-level.runs.runs c.loop-level.invariant
    (up_to c.loop-level.level _ _ levels c.loop-level.auto.level-end c.loop-level-test.false)
    c.law_shape.ensures.low

pub look_at-requires-clause-now : goal.look_at-requires-clause-now
look_at-requires-clause-now g c = c.requires.now

pub look_at-requires-clause-in_time : goal.look_at-requires-clause-in_time
look_at-requires-clause-in_time g c = c.requires.in_time
