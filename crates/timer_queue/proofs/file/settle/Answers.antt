use Rattle.timer_queue.proofs.Turns.{settled}
use Rattle.timer_queue.proofs.file.settle.Goals as goal

pub returns-then-first-clock-clause-from : goal.returns-then-first-clock-clause-from
returns-then-first-clock-clause-from c = λ low under all.
    settled low c.in-Some.first c.clock-clock.result c.args.wheel.now c.forward.new.self c.forward.ensures.base c.clock-clock.ensures.clock
    c.in-Some.ensures.least c.if-first-clock.true all
