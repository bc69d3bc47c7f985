use Rattle.program_texts.specs.TreeText.Trees.{group_line}
use Rattle.program_texts.proofs.TreeText.Groups.{text_more}
use Rattle.program_texts.proofs.tree_text.trees.push_groups.Goals as goal

pub loop-number-preserved : goal.loop-number-preserved
loop-number-preserved c =
    text_more (group_line c.args.tree.now) c.loop-number.number c.args.text.now.items
    c.loop-number.text.items _ c.loop-number.invariant c.in_ok-push_group_line.ensures
