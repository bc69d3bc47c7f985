use Rattle.shared_words.specs.Layout.{index_of}
use Rattle.shared_rule.specs.Whole.{timer_at, layout_of}
use Rattle.shared_table.specs.Spelled.{SpelledTo}
use Rattle.shared_table.proofs.first_words.push_timers.Given as goal

abbrev pub invariant-loop-timer : goal.invariant-loop-timer
invariant-loop-timer g l =
    SpelledTo l.core (index_of (layout_of l.core) (timer_at l.timer)) l.words.items
