use Rattle.std.proofs.Common.{◌≡◌, ◌∙◌, ap, arith, get_or, set}
use Rattle.std.proofs.lemmas.List.{get_or_default}
use Rattle.std.proofs.lemmas.List.Edits.{map_over_more}
use Rattle.tree_plan.specs.Store.{groups_for}
use Rattle.tree_plan.proofs.cutting.climb.Goals as goal

pub loop-row-preserved : goal.loop-row-preserved
loop-row-preserved c =
    let l = c.loop-row in
    let x = get_or l.row-items l.row-index 0 in
    let made : c.div_ceil.result ≡ groups_for x = omega (arith, c.div_ceil.ensures) in
    ap (λ n. set l.row-items l.row-index n) made
    ∙ map_over_more groups_for c.deref_mut-row-items.result.now l.row-items l.row-index x c.loop-row-test.true l.invariant (get_or_default l.row-items l.row-index 0 x (omega arith))
