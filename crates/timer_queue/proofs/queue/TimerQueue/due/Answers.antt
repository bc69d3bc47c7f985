use Rattle.timer_queue.proofs.Dues.{due_keeps_along}
use Rattle.timer_queue.proofs.queue.TimerQueue.due.Goals as goal

pub returns-clause-stays : goal.returns-clause-stays
returns-clause-stays g c = due_keeps_along _
