use Rattle.std.proofs.Common.{rules}
use Rattle.cpu_bases.proofs.Replays.{adds_both, replays_on}
use Rattle.base_calls.proofs.BasesRuns.{run_more, stands_more, stands_still}
use Rattle.base_calls.proofs.bases.make_calls.Goals as goal

pub loop-call-preserved : goal.loop-call-preserved
loop-call-preserved g c =
    run_more c.args.calls.now c.loop-call.call-index _ c.loop-call.answers.items
    c.push.new.self.items c.in_ok-answer.answer _ _ _ c.loop-call-test.true c.loop-call.invariant
    c.in_ok-answer.ensures.answer c.in_ok-answer.ensures.after c.in_ok-answer.ensures.replay
    c.in_ok-answer.ensures.legal c.in_ok-push.ensures.items

pub returns-in_err-answer-clause-err : goal.returns-in_err-answer-clause-err
returns-in_err-answer-clause-err g c =
    let stands =
    stands_still c.args.calls.now c.loop-call.call-index c.loop-call.answers.items _ _ _
    c.loop-call-test.true c.loop-call.invariant c.in_err-answer.ensures.err in
    search rules

pub returns-in_err-answer-clause-replay : goal.returns-in_err-answer-clause-replay
returns-in_err-answer-clause-replay g c =
    replays_on _ _
    (adds_both _ _ _ c.loop-call.invariant.replay c.in_err-answer.ensures.replay)

pub returns-in_err-answer-clause-played : goal.returns-in_err-answer-clause-played
returns-in_err-answer-clause-played g c =
    replays_on _ _
    (adds_both _ _ _ c.loop-call.invariant.replay c.in_err-answer.ensures.replay) _

pub returns-in_err-push-clause-err : goal.returns-in_err-push-clause-err
returns-in_err-push-clause-err g c =
    let stands =
    stands_more c.args.calls.now c.loop-call.call-index _ c.loop-call.answers.items _ _ _
    c.loop-call-test.true c.loop-call.invariant c.in_ok-answer.ensures.after in
    search rules

pub returns-in_err-push-clause-replay : goal.returns-in_err-push-clause-replay
returns-in_err-push-clause-replay g c =
    replays_on _ _ (adds_both _ _ _ c.loop-call.invariant.replay c.in_ok-answer.ensures.replay)

pub returns-in_err-push-clause-played : goal.returns-in_err-push-clause-played
returns-in_err-push-clause-played g c =
    replays_on _ _ (adds_both _ _ _ c.loop-call.invariant.replay c.in_ok-answer.ensures.replay) _

pub returns-clause-replay : goal.returns-clause-replay
returns-clause-replay g c = replays_on _ _ c.loop-call.invariant.replay

pub returns-clause-played : goal.returns-clause-played
returns-clause-played g c = replays_on _ _ c.loop-call.invariant.replay _
