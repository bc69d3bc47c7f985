use Rattle.std.proofs.Common.{◌≡◌}
use Rattle.orders_sights.specs.Gathering.{gathered}
use Rattle.orders_sights.specs.Seeing.{sleeper_seen}
use Rattle.orders_sights.proofs.sleepers.sleepers_seen.Given as goal

abbrev pub invariant-loop-cpu : goal.invariant-loop-cpu
invariant-loop-cpu l = l.list.items ≡ gathered (sleeper_seen l.world) l.cpu
