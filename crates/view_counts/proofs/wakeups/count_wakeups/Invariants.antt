use Rattle.std.proofs.Common.{◌≡◌}
use Rattle.std.specs.Prelude.{drop}
use Rattle.view_counts.specs.Wakeups.{counted}
use Rattle.view_counts.proofs.wakeups.count_wakeups.Given as goal

abbrev pub invariant-loop-wakeup : goal.invariant-loop-wakeup
invariant-loop-wakeup l =
    counted l.cpus.items (drop l.wakeup-index l.wakeups)
    ≡ counted l.fn.cpus.items l.fn.wakeups
