use Rattle.shared_words.specs.Layout.{index_of}
use Rattle.shared_rule.specs.Whole.{cpu_at, layout_of}
use Rattle.shared_table.specs.Spelled.{SpelledTo}
use Rattle.shared_table.proofs.first_words.push_cpus.Given as goal

abbrev pub invariant-loop-cpu : goal.invariant-loop-cpu
invariant-loop-cpu g l =
    SpelledTo l.core (index_of (layout_of l.core) (cpu_at l.cpu)) l.words.items
