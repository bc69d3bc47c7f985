use Rattle.timer_queue.specs.Turns.{GoesOn, left}
use Rattle.timer_queue.proofs.queue.TimerQueue.pop_due.Given as goal

abbrev pub invariant-turns : goal.invariant-turns
invariant-turns g l = GoesOn l.now l.fn.self l.self

abbrev pub decreases-turns : goal.decreases-turns
decreases-turns g l = left l.now l.self.slots
