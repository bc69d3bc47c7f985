use Rattle.std.proofs.Common.{◌≡◌}
use Rattle.std.specs.Prelude.{drop}
use Rattle.view_counts.specs.Wakeups.{keeper_from}
use Rattle.view_counts.proofs.wakeups.other_keeper.Given as goal

abbrev pub invariant-loop-other : goal.invariant-loop-other
invariant-loop-other l =
    keeper_from l.other l.cpu (drop l.other l.reasons) ≡ keeper_from 0 l.fn.cpu l.fn.reasons
