use Rattle.std.proofs.Common.{length, vec_capacity}
use Rattle.deep_idle.proofs.Waking.{Woken}
use Rattle.deep_idle.proofs.device.wake_due.Given as goal

abbrev pub invariant-loop-queue : goal.invariant-loop-queue
invariant-loop-queue l =
    Woken l.now l.fn.sleepers.items l.sleepers.items l.queue.items l.due (vec_capacity l.fn.queue) (vec_capacity l.queue)

abbrev pub decreases-loop-queue : goal.decreases-loop-queue
decreases-loop-queue l = length l.queue.items
