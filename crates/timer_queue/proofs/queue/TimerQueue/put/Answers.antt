use Rattle.std.proofs.Common.{◌+◌, ap, subst, sym, ◌∙◌, arith}
use Rattle.timer_queue.specs.Queues.{CanInsert, Queue}
use Rattle.timer_queue.proofs.Keeps.{keeps_filed}
use Rattle.timer_queue.proofs.Calls.{roomy}
use Rattle.timer_queue.proofs.queue.TimerQueue.put.Goals as goal

pub invariant_of-self : goal.invariant_of-self
invariant_of-self g c =
    let can = subst (CanInsert c.args.expires) (sym c.self.view_is) c.requires in
    let some = can.room in
    let room = roomy c.self.inside.wheel c.self.inside.timers c.self.inside.issued 1 c.self.invariant (omega arith) (omega (arith, some)) in
    let clock = c.clock.ensures ∙ sym (ap (λ (q : Queue g.row.T.Denot). q.clock) c.self.view_is) in
    let started = c.self.invariant.started in
    let low = can.in_reach.clock_in_reach in
    let free = room.wheel_room in
    keeps_filed c.self.inside.wheel c.file-slot.new.wheel c.self.inside.timers c.file-slot.new.timers c.self.inside.issued (c.self.inside.issued + 1) c.file-slot.result
    (record { number = c.self.inside.issued; expires = c.args.expires; armed = c.clock.result; moment = 0; value = c.args.value })
    c.self.invariant c.file-slot.ensures.was_vacant c.file-slot.ensures.wheel c.file-slot.ensures.behind c.file-slot.ensures.updates c.file-slot.ensures.len c.file-slot.ensures.capacity
    can.in_reach.expires_in_reach (omega (arith, low)) (omega arith) (omega arith) (omega (arith, clock, started)) (omega (arith, clock, started)) (omega (arith, free))
