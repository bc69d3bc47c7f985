use Rattle.std.proofs.Common.{◌≡◌, ◌++◌, ◌-◌}
use Rattle.view_counts.specs.Differences.{difference_lines}
use Rattle.view_counts.proofs.differences.push_cpus.Given as goal

abbrev pub invariant-loop-cpu : goal.invariant-loop-cpu
invariant-loop-cpu l =
    l.text.items ++ difference_lines (l.count - l.cpu) l.cpu l.ones l.twos
    ≡ l.fn.text.items ++ difference_lines l.count 0 l.ones l.twos
