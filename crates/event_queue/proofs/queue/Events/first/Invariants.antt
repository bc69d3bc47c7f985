use Rattle.event_queue.specs.EventMap.{Counts}
use Rattle.event_queue.proofs.Search.{FirstBelow}
use Rattle.event_queue.proofs.queue.Events.first.Given as goal

abbrev pub invariant-loop-child : goal.invariant-loop-child
invariant-loop-child l = FirstBelow Counts l.self-inside.slots l.child l.best
