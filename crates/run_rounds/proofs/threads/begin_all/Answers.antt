use Rattle.std.proofs.Common.{[], ap, arith, length, refl}
use Rattle.std.proofs.lemmas.Result.{err_from_is_err_and}
use Rattle.run_shares.specs.Tasks.{IsTaskOf}
use Rattle.run_shares.specs.Progress.{MayShare}
use Rattle.run_rounds.specs.UnderWay.{IsBegunAt}
use Rattle.run_shares.proofs.Moving.{each_first}
use Rattle.run_rounds.proofs.Beginning.{begun_one}
use Rattle.run_shares.proofs.Rows.{none_moved}
use Rattle.run_rounds.proofs.threads.begin_all.Goals as goal

pub begin-requires-clause-may : goal.begin-requires-clause-may
begin-requires-clause-may g c κs within =
    each_first (MayShare g.N.RunName.table g.N.RunName.opening) c.loop-task.task-iterator.rest.items
    c.in-Some.task c.next.new.self.rest.items c.in-Some.ensures.steps.0 c.loop-task.invariant.may

pub loop-task-preserved : goal.loop-task-preserved
loop-task-preserved g c =
    let replies = g.J.Jobs.replies in
    begun_one g.N.RunName.table g.N.RunName.opening replies (replies c.args.jobs.now)
    c.args.tasks.items c.loop-task.task-iterator.rest.items c.next.new.self.rest.items
    c.loop-task.begun.items c.push.new.self.items c.in-Some.task c.begin.result
    c.in-Some.ensures.steps.0 c.in_ok-push.ensures.items c.begin.ensures c.loop-task.invariant

pub loop-task-init : goal.loop-task-init
loop-task-init g c =
    let table = g.N.RunName.table in
    let o = g.N.RunName.opening in
    let replies = g.J.Jobs.replies in
    let jobs = replies c.args.jobs.now in
    rw (c.into_iter-task-iterator.ensures.into_iter_gives.0, c.in_ok-begun.ensures.items) (record {
      may = c.requires.may;
      all_are = omega arith;
      moved = λ plan tasks. none_moved (IsTaskOf table o plan) (IsBegunAt table o replies jobs plan)
          c.args.tasks.items [] refl tasks;
    })

pub returns-in_err-begun-clause-each : goal.returns-in_err-begun-clause-each
returns-in_err-begun-clause-each g c =
    let p = err_from_is_err_and c.from_residual.result c.from_residual.ensures.1 in rw p.1 tt

pub returns-in_err-begun-clause-count : goal.returns-in_err-begun-clause-count
returns-in_err-begun-clause-count g c =
    let p = err_from_is_err_and c.from_residual.result c.from_residual.ensures.1 in rw p.1 tt

pub begin-requires-clause-now : goal.begin-requires-clause-now
begin-requires-clause-now g c κs within = c.requires.now

pub begin-requires-clause-in_time : goal.begin-requires-clause-in_time
begin-requires-clause-in_time g c κs within = c.requires.in_time

pub returns-in_err-push-clause-each : goal.returns-in_err-push-clause-each
returns-in_err-push-clause-each g c =
    let left = c.from_residual-in_err-push in
    let p = err_from_is_err_and left.result left.ensures.1 in rw p.1 tt

pub returns-in_err-push-clause-count : goal.returns-in_err-push-clause-count
returns-in_err-push-clause-count g c =
    let left = c.from_residual-in_err-push in
    let p = err_from_is_err_and left.result left.ensures.1 in rw p.1 tt

pub returns-clause-each : goal.returns-clause-each
returns-clause-each g c plan tasks = (c.loop-task.invariant.moved plan tasks).done

pub returns-clause-count : goal.returns-clause-count
returns-clause-count g c =
    let rest = c.loop-task.task-iterator.rest in
    let all_are = c.loop-task.invariant.all_are in
    omega (arith, all_are, rest.ok.0, c.in-None.ensures.steps.0)

pub loop-task-smaller : goal.loop-task-smaller
loop-task-smaller g c =
    let rest = c.loop-task.task-iterator.rest in
    let later = c.next.new.self.rest in
    let steps = ap length c.in-Some.ensures.steps.0 in
    omega (arith, rest.ok.0, later.ok.0, steps)
