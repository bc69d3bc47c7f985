use Rattle.timer_queue.proofs.Calls.{cancelled}
use Rattle.timer_queue.proofs.queue.TimerQueue.cancel.Goals as goal

pub invariant_of-self : goal.invariant_of-self
invariant_of-self g c =
    (cancelled c.self.inside.wheel c.remove.new.self c.self.inside.timers c.remove-timer.new.self c.self.inside.issued c.args.key.slot c.remove-timer.result c.self.invariant
    c.remove.ensures.base c.remove.ensures.none_behind c.remove-timer.ensures.value c.remove-timer.ensures.updates c.remove-timer.ensures.len c.remove-timer.ensures.capacity).keeps
