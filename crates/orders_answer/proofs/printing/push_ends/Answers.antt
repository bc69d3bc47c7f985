use Rattle.std.proofs.Common.{◌++◌, ◌∙◌, ap, arith}
use Rattle.orders_answer.specs.declared.shown.EndShown.{EndShown}
use Rattle.orders_answer.specs.Lines.{end_shown}
use Rattle.orders_answer.proofs.Lists.{end_more, end_none}
use Rattle.orders_answer.proofs.printing.push_ends.Goals as goal

pub loop-end-preserved : goal.loop-end-preserved
loop-end-preserved c =
    let low = c.loop-end-test.true in
    let number = c.loop-end.invariant.number in
    record {
      number = omega (arith, number);
      same = end_more c.args.ends.now c.loop-end.end-index _ c.loop-end.number _ _ _ (omega (arith, low)) (c.in_ok-push_end.ensures ∙ ap (λ (e : EndShown). c.loop-end.text.items ++ end_shown c.loop-end.number e) c.end-item.is) c.loop-end.invariant.same;
    }

pub returns : goal.returns
returns c =
    let end = c.loop-end-test.false in
    end_none c.args.ends.now c.loop-end.end-index c.loop-end.number _ _ (omega (arith, end)) c.loop-end.invariant.same
