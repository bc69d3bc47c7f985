use Rattle.orders_sights.specs.Seeing.{AreSeenBelow}
use Rattle.orders_sights.proofs.timers.timers_seen.Given as goal

abbrev pub invariant-loop-cpu : goal.invariant-loop-cpu
invariant-loop-cpu l = AreSeenBelow l.world l.cpu l.list.items
