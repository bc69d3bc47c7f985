use Rattle.std.proofs.Common.{arith}
use Rattle.orders_answer.specs.Lines.{timer_shown}
use Rattle.orders_answer.proofs.Lists.{no_more, one_more}
use Rattle.orders_answer.proofs.lines.push_timers.Goals as goal

pub loop-timer-preserved : goal.loop-timer-preserved
loop-timer-preserved c =
    let low = c.loop-timer-test.true in
    record { same = one_more timer_shown c.args.timers.now c.loop-timer.timer-index _ _ _ _ (omega (arith, low)) c.in_ok-push_timer.ensures c.loop-timer.invariant.same }

pub returns : goal.returns
returns c =
    let end = c.loop-timer-test.false in
    no_more timer_shown c.args.timers.now c.loop-timer.timer-index _ _ (omega (arith, end)) c.loop-timer.invariant.same
