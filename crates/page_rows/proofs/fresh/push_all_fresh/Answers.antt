use Rattle.page_rows.proofs.WordLaws.{rows_done}
use Rattle.page_rows.proofs.fresh.push_all_fresh.Goals as goal

pub returns : goal.returns
returns c =
    rows_done c.args.sheet c.args.shown.now c.loop-line.rest.now c.args.lines.now
    c.loop-line.text.items c.push_fresh-2.new.text.items c.args.text.now.items
    c.in_default.ensures.none c.loop-line.invariant.text c.in_ok-push_fresh-2.ensures
