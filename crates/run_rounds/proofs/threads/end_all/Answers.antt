use Rattle.std.proofs.Common.{[], arith, refl}
use Rattle.std.proofs.lemmas.Result.{err_from_is_err_and}
use Rattle.run_shares.specs.Progress.{IsDoneAt}
use Rattle.run_rounds.specs.UnderWay.{IsBegunAt}
use Rattle.run_rounds.proofs.Beginning.{ended_one}
use Rattle.run_shares.proofs.Rows.{none_moved}
use Rattle.run_rounds.proofs.threads.end_all.Goals as goal

pub loop-one-preserved : goal.loop-one-preserved
loop-one-preserved g c =
    ended_one g.N.RunName.table g.N.RunName.opening g.J.Jobs.replies
    c.args.begun.items c.loop-one.one-iterator.rest.items c.next.new.self.rest.items
    c.loop-one.shares.items c.push.new.self.items c.in-Some.one c.end.result
    c.in-Some.ensures.steps.0 c.in_ok-push.ensures.items c.end.ensures c.loop-one.invariant

pub loop-one-init : goal.loop-one-init
loop-one-init g c =
    let table = g.N.RunName.table in
    let o = g.N.RunName.opening in
    let replies = g.J.Jobs.replies in
    rw (c.into_iter-one-iterator.ensures.into_iter_gives.0, c.in_ok-shares.ensures.items) (record {
      all_are = omega arith;
      moved = λ jobs plan begun. none_moved (IsBegunAt table o replies jobs plan)
          (IsDoneAt table o jobs plan) c.args.begun.items [] refl begun;
    })

pub returns-in_err-shares-clause-each : goal.returns-in_err-shares-clause-each
returns-in_err-shares-clause-each g c =
    let p = err_from_is_err_and c.from_residual.result c.from_residual.ensures.1 in rw p.1 tt

pub returns-in_err-shares-clause-count : goal.returns-in_err-shares-clause-count
returns-in_err-shares-clause-count g c =
    let p = err_from_is_err_and c.from_residual.result c.from_residual.ensures.1 in rw p.1 tt

pub returns-in_err-push-clause-each : goal.returns-in_err-push-clause-each
returns-in_err-push-clause-each g c =
    let left = c.from_residual-in_err-push in
    let p = err_from_is_err_and left.result left.ensures.1 in rw p.1 tt

pub returns-in_err-push-clause-count : goal.returns-in_err-push-clause-count
returns-in_err-push-clause-count g c =
    let left = c.from_residual-in_err-push in
    let p = err_from_is_err_and left.result left.ensures.1 in rw p.1 tt

pub returns-clause-each : goal.returns-clause-each
returns-clause-each g c jobs plan begun = (c.loop-one.invariant.moved jobs plan begun).done

pub returns-clause-count : goal.returns-clause-count
returns-clause-count g c =
    let rest = c.loop-one.one-iterator.rest in
    let all_are = c.loop-one.invariant.all_are in
    omega (arith, all_are, rest.ok.0, c.in-None.ensures.steps.0)
