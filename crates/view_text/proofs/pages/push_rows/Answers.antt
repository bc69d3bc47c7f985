use Rattle.std.proofs.Common.{refl}
use Rattle.view_text.proofs.Steps.{rows_end, rows_next}
use Rattle.view_text.proofs.pages.push_rows.Goals as goal

pub loop-span-preserved : goal.loop-span-preserved
loop-span-preserved c = record {
  text =
      rows_next c.args.begin c.loop-span.span-index c.loop-span.before c.args.spans.now _ _
      c.loop-span.text.items c.push_next.new.text.items _ c.loop-span-test.true refl
      c.loop-span.invariant.text c.in_ok-push_next.ensures;
}

pub returns : goal.returns
returns c =
    rows_end c.args.begin c.loop-span.span-index c.loop-span.before c.args.spans.now
    c.loop-span.text.items c.push_words.new.text.items _ c.loop-span-test.false
    c.loop-span.invariant.text c.in_ok-push_words.ensures
