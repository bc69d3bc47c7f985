use Rattle.std.proofs.Common.{◌≤◌, length, drop}
use Rattle.deep_idle.specs.Order.{NotAfter}
use Rattle.deep_idle.proofs.order.index_for.Given as goal

abbrev pub invariant-loop-place : goal.invariant-loop-place
invariant-loop-place l = (l.place ≤ length l.queue) × NotAfter l.wakeup (drop l.place l.queue)

abbrev pub decreases-loop-place : goal.decreases-loop-place
decreases-loop-place l = l.place
