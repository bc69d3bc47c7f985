use Rattle.std.proofs.Common.{sym, ◌∙◌, arith}
use Rattle.std.proofs.lemmas.List.Sums.{sum_by-drop_more}
use Rattle.tree_plan.proofs.Lengths.{level_more, level_done}
use Rattle.tree_plan.proofs.cutting.cut_level.Goals as goal

pub loop-row-preserved : goal.loop-row-preserved
loop-row-preserved c =
    let l = c.loop-row in
    let rows = c.args.rows.now in
    record {
      few = omega (arith, sum_by-drop_more (λ x. x) rows l.row-index 0 c.loop-row-test.true, c.in_ok-place.ensures.behind, l.invariant.few);
      rest = level_more c.args.level l.place _ l.row-index rows _ _ c.loop-row-test.true c.in_ok-place.ensures.groups c.in_ok-place.ensures.behind ∙ l.invariant.rest;
    }

pub returns : goal.returns
returns c =
    let l = c.loop-row in
    sym (level_done c.args.level l.place l.row-index c.args.rows.now _ c.loop-row-test.false) ∙ l.invariant.rest
