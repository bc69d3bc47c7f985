use Rattle.std.proofs.Common.{◌≡◌, ◌++◌}
use Rattle.program_texts.specs.TreeText.Trees.{group_line}
use Rattle.program_texts.proofs.TreeText.Groups.{lines_below}
use Rattle.program_texts.proofs.tree_text.trees.push_groups.Given as goal

abbrev pub invariant-loop-number : goal.invariant-loop-number
invariant-loop-number l =
    l.text.items ≡ l.fn.text.items ++ lines_below (group_line l.tree) l.number
