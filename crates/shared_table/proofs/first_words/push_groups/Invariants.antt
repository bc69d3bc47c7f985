use Rattle.shared_words.specs.Layout.{index_of}
use Rattle.shared_rule.specs.Whole.{state_at, layout_of}
use Rattle.shared_table.specs.Spelled.{SpelledTo}
use Rattle.shared_table.proofs.first_words.push_groups.Given as goal

abbrev pub invariant-loop-group : goal.invariant-loop-group
invariant-loop-group g l =
    SpelledTo l.core (index_of (layout_of l.core) (state_at l.group)) l.words.items
