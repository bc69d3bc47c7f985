use Rattle.std.proofs.Common.{arith}
use Rattle.timer_queue.proofs.Calls.{keeps_empty}
use Rattle.timer_queue.proofs.queue.TimerQueue.clear.Goals as goal

pub invariant_of-self : goal.invariant_of-self
invariant_of-self g c =
    let keeps = c.self.invariant in
    let fits = keeps.fits in
    let started = keeps.started in
    let in_time = keeps.in_time in
    let clock = c.empty_wheel.ensures.clock in
    let room = c.empty_wheel.ensures.capacity in
    let same = c.clear.ensures.capacity in
    keeps_empty c.empty_wheel.new.wheel c.clear.new.self c.self.inside.issued c.empty_wheel.ensures.items c.clear.ensures.empty
    (omega (arith, fits, room, same)) (omega (arith, started, clock)) (omega (arith, in_time, clock))
