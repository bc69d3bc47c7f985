use Rattle.tree_plan.proofs.Lengths.{links_none, links_more}
use Rattle.tree_plan.proofs.cutting.link_to.Goals as goal

pub loop-bit-init : goal.loop-bit-init
loop-bit-init c = links_none _ _

pub loop-bit-preserved : goal.loop-bit-preserved
loop-bit-preserved c = links_more _ c.loop-bit.bit _ _ _ c.loop-bit.invariant c.in_ok-push.ensures.items
