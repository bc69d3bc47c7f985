use Rattle.event_queue.specs.EventMap.{IsTakenUp}
use Rattle.event_queue.proofs.Search.{FirstBelow}
use Rattle.event_queue.proofs.queue.Events.due.Given as goal

abbrev pub invariant-loop-child : goal.invariant-loop-child
invariant-loop-child l = FirstBelow (IsTakenUp l.now l.tried) l.self-inside.slots l.child l.best
