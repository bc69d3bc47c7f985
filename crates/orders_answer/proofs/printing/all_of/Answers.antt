use Rattle.std.proofs.Common.{arith}
use Rattle.orders_answer.specs.Answers.{all_orders}
use Rattle.orders_answer.proofs.Lists.{sum_more, sum_none}
use Rattle.orders_answer.proofs.printing.all_of.Goals as goal

pub returns-in-None : goal.returns-in-None
returns-in-None c =
    let low = c.loop-end-test.true in
    let more = sum_more c.args.ends.now c.loop-end.end-index all_orders _ _ (omega (arith, low)) c.end-item.is in
    let same = c.loop-end.invariant.same in
    let sum = c.in-None.ensures in
    omega (arith, more, same, sum)

pub loop-end-preserved : goal.loop-end-preserved
loop-end-preserved c =
    let low = c.loop-end-test.true in
    let more = sum_more c.args.ends.now c.loop-end.end-index all_orders _ _ (omega (arith, low)) c.end-item.is in
    let same = c.loop-end.invariant.same in
    let sum = c.in-Some.ensures in
    record { same = omega (arith, more, same, sum) }

pub returns : goal.returns
returns c =
    let end = c.loop-end-test.false in
    let none = sum_none c.args.ends.now c.loop-end.end-index all_orders (omega (arith, end)) in
    let same = c.loop-end.invariant.same in
    omega (arith, none, same)
