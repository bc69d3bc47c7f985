use Rattle.std.proofs.Common.{◌++◌, ◌∙◌, ap, arith}
use Rattle.orders_answer.specs.declared.shown.ThreadShown.{ThreadShown}
use Rattle.orders_answer.specs.Lines.{thread_shown}
use Rattle.orders_answer.proofs.Lists.{no_more, one_more}
use Rattle.orders_answer.proofs.lines.push_threads.Goals as goal

pub loop-thread-preserved : goal.loop-thread-preserved
loop-thread-preserved c =
    let low = c.loop-thread-test.true in
    record { same = one_more thread_shown c.args.threads.now c.loop-thread.thread-index _ _ _ _ (omega (arith, low)) (c.in_ok-push_thread.ensures ∙ ap (λ (t : ThreadShown). c.loop-thread.text.items ++ thread_shown t) c.thread-item.is) c.loop-thread.invariant.same }

pub returns : goal.returns
returns c =
    let end = c.loop-thread-test.false in
    no_more thread_shown c.args.threads.now c.loop-thread.thread-index _ _ (omega (arith, end)) c.loop-thread.invariant.same
