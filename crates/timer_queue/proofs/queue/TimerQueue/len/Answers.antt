use Rattle.timer_queue.proofs.Keeps.{lawful_timer}
use Rattle.timer_queue.proofs.queue.TimerQueue.len.Goals as goal

pub returns-clause-lawful : goal.returns-clause-lawful
returns-clause-lawful g c =
    rw (← c.self.view_is) (λ key timer is.
    lawful_timer c.self.inside.wheel c.self.inside.timers c.self.inside.issued key timer
    c.self.invariant is)
