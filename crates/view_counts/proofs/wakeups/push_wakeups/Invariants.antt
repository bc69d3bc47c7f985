use Rattle.std.proofs.Common.{◌≡◌, ◌++◌}
use Rattle.std.specs.Prelude.{drop}
use Rattle.view_counts.specs.Wakeups.{wakeup_lines}
use Rattle.view_counts.proofs.wakeups.push_wakeups.Given as goal

abbrev pub invariant-loop-wakeup : goal.invariant-loop-wakeup
invariant-loop-wakeup l =
    l.text.items ++ wakeup_lines (drop l.wakeup-index l.wakeups)
    ≡ l.fn.text.items ++ wakeup_lines l.fn.wakeups
