use Rattle.std.proofs.Common.{sym, ◌∙◌, arith}
use Rattle.tree_plan.proofs.Lengths.{group_links_more, group_links_done}
use Rattle.tree_plan.proofs.cutting.link_children.Goals as goal

pub loop-number-preserved : goal.loop-number-preserved
loop-number-preserved c = group_links_more c.loop-number.number c.args.groups.now _ _ _ (omega arith) c.in_ok-link_to.ensures ∙ c.loop-number.invariant

pub returns : goal.returns
returns c = sym (group_links_done c.loop-number.number c.args.groups.now _ (omega arith)) ∙ c.loop-number.invariant
