use Rattle.std.proofs.Common.{rules}
use Rattle.base_calls.proofs.WheelRuns.{run_more, stands_more}
use Rattle.base_calls.proofs.wheel.make_calls.Goals as goal

pub returns-in_err-push-clause-err : goal.returns-in_err-push-clause-err
returns-in_err-push-clause-err g c =
    let stands = stands_more c.args.calls.now c.loop-call.call-index _ c.loop-call.answers.items _ _ _ c.loop-call-test.true c.loop-call.invariant c.in_ok-answer.ensures.after in
    search rules

pub loop-call-preserved : goal.loop-call-preserved
loop-call-preserved g c =
    run_more c.args.calls.now c.loop-call.call-index _ c.loop-call.answers.items c.push.new.self.items c.in_ok-answer.answer _ _ _
    c.loop-call-test.true c.loop-call.invariant c.in_ok-answer.ensures.answer c.in_ok-answer.ensures.after c.in_ok-push.ensures.items
