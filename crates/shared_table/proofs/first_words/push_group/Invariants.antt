use Rattle.shared_words.specs.Layout.{index_of}
use Rattle.shared_rule.specs.Whole.{slot_at, layout_of}
use Rattle.shared_table.specs.Spelled.{SpelledTo}
use Rattle.shared_table.proofs.first_words.push_group.Given as goal

abbrev pub invariant-loop-child : goal.invariant-loop-child
invariant-loop-child g l =
    SpelledTo l.core (index_of (layout_of l.core) (slot_at l.group.0 l.child)) l.words.items
