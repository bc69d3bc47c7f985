use Rattle.std.proofs.Common.{◌≡◌}
use Rattle.std.specs.Prelude.{drop}
use Rattle.delayed_work.specs.Play.{unknown_in}
use Rattle.delayed_work.proofs.play.unknown_in.Given as goal

abbrev pub invariant-loop-moment : goal.invariant-loop-moment
invariant-loop-moment l = unknown_in l.table (drop l.moment-index l.moments) ≡ unknown_in l.table l.moments
