use Rattle.std.proofs.Common.{◌≡◌, drop}
use Rattle.view_stat.specs.Alone.{first_leave}
use Rattle.view_stat.proofs.alone.first_leave.Given as goal

abbrev pub invariant-loop-moment : goal.invariant-loop-moment
invariant-loop-moment l = first_leave (drop l.moment-index l.fn.moments) ≡ first_leave l.fn.moments
