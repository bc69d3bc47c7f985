use Rattle.std.proofs.Common.{◌≡◌, length}
use Rattle.timer_queue.proofs.queue.empty_wheel.Given as goal

abbrev pub invariant-loop-id : goal.invariant-loop-id
invariant-loop-id l =
    (l.wheel.plain.clock ≡ l.fn.wheel.plain.clock) × (l.wheel.capacity ≡ l.fn.wheel.capacity)

abbrev pub decreases-loop-id : goal.decreases-loop-id
decreases-loop-id l = length l.wheel.plain.items
