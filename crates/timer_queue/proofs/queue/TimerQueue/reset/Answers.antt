use Rattle.std.proofs.Common.{◌+◌, ◌≤◌, ap, sym, ◌∙◌, arith, rules}
use Rattle.wheel_core.specs.PlainBase.{RoomyBase}
use Rattle.timer_queue.specs.declared.timer.TheConstants.{LAST_TICK}
use Rattle.timer_queue.specs.Queues.{Queue}
use Rattle.timer_queue.proofs.Keeps.{keeps_filed, tied_none}
use Rattle.timer_queue.proofs.Calls.{cancelled}
use Rattle.timer_queue.proofs.queue.TimerQueue.reset.Goals as goal

pub file-requires-clause-vacant : goal.file-requires-clause-vacant
file-requires-clause-vacant g c = λ slot none.
    tied_none _ _ ((cancelled c.self.inside.wheel c.remove.new.self c.self.inside.timers c.remove-gone.new.self c.self.inside.issued c.args.key.slot c.remove-gone.result c.self.invariant
    c.remove.ensures.base c.remove.ensures.none_behind c.remove-gone.ensures.value c.remove-gone.ensures.updates c.remove-gone.ensures.len c.remove-gone.ensures.capacity).keeps.tied slot) none

pub invariant_of-self : goal.invariant_of-self
invariant_of-self g c =
    let gone = cancelled c.self.inside.wheel c.remove.new.self c.self.inside.timers c.remove-gone.new.self c.self.inside.issued c.args.key.slot c.remove-gone.result c.self.invariant
    c.remove.ensures.base c.remove.ensures.none_behind c.remove-gone.ensures.value c.remove-gone.ensures.updates c.remove-gone.ensures.len c.remove-gone.ensures.capacity in
    let own = c.self.invariant.each c.args.key.slot c.remove-gone.result c.remove-gone.ensures.value in
    let e : c.args.expires ≤ LAST_TICK = search rules in
    let k : c.remove.new.self.plain.clock ≤ LAST_TICK + 1 = search rules in
    let armed = c.clock-armed.ensures ∙ sym (ap (λ (q : Queue g.row.T.Denot). q.clock) c.self.view_is) in
    let clock_is = ap (λ (b : RoomyBase). b.plain.clock) c.remove.ensures.base in
    let started = c.self.invariant.started in
    keeps_filed c.remove.new.self c.file.new.wheel c.remove-gone.new.self c.file.new.timers c.self.inside.issued c.self.inside.issued c.file.result
    (record { number = c.remove-gone.result.number; expires = c.args.expires; armed = c.clock-armed.result; moment = 0; value = c.remove-gone.result.value })
    gone.keeps c.file.ensures.was_vacant c.file.ensures.wheel c.file.ensures.behind c.file.ensures.updates c.file.ensures.len c.file.ensures.capacity
    e k own.number (omega arith) (omega (arith, armed, clock_is, started)) (omega (arith, armed, clock_is, started)) gone.free
