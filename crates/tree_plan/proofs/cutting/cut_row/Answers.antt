use Rattle.std.proofs.Common.{sym, ◌∙◌, arith}
use Rattle.tree_plan.proofs.Lengths.{row_more, row_done}
use Rattle.tree_plan.proofs.cutting.cut_row.Goals as goal

pub loop-left-preserved : goal.loop-left-preserved
loop-left-preserved c =
    let l = c.loop-left in
    record {
      fits = omega arith;
      behind = omega (arith, c.min-children.ensures);
      rest = row_more c.args.level l.place l.left c.min-children.result _ _ c.loop-left-test.true c.min-children.ensures c.in_ok-push.ensures.items ∙ l.invariant.rest;
    }

pub returns-clause-groups : goal.returns-clause-groups
returns-clause-groups c =
    let l = c.loop-left in
    sym (row_done c.args.level l.place l.left _ (omega arith)) ∙ l.invariant.rest
