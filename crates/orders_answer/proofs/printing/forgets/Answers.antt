use Rattle.std.proofs.Common.{◌∙◌, arith, sym}
use Rattle.orders_answer.proofs.Lists.{timer_here, timer_next, timer_none}
use Rattle.orders_answer.proofs.printing.forgets.Goals as goal

pub returns-then-is_nobody : goal.returns-then-is_nobody
returns-then-is_nobody c =
    let low = c.loop-timer-test.true in
    sym (timer_here c.args.timers.now c.loop-timer.timer-index _ _ (omega (arith, low)) c.is_nobody.ensures c.if-is_nobody.true) ∙ c.loop-timer.invariant.same

pub loop-timer-preserved : goal.loop-timer-preserved
loop-timer-preserved c =
    let low = c.loop-timer-test.true in
    record { same = sym (timer_next c.args.timers.now c.loop-timer.timer-index _ _ (omega (arith, low)) c.is_nobody.ensures c.if-is_nobody.false) ∙ c.loop-timer.invariant.same }

pub returns : goal.returns
returns c =
    let end = c.loop-timer-test.false in
    sym (timer_none c.args.timers.now c.loop-timer.timer-index (omega (arith, end))) ∙ c.loop-timer.invariant.same
