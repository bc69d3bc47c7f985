use Rattle.std.proofs.Common.{◌≡◌, ◌<◌, ◌-◌, suc, length, take, subst, arith}
use Rattle.deep_idle.specs.Order.{After}
use Rattle.deep_idle.proofs.Kept.{front_after}
use Rattle.deep_idle.proofs.order.index_for.Goals as goal

pub returns-then-queue-place-clause-before : goal.returns-then-queue-place-clause-before
returns-then-queue-place-clause-before c =
    let same : suc (c.loop-place.place - 1) ≡ c.loop-place.place = omega arith in
    let within : c.loop-place.place - 1 < length c.args.queue.now = omega (arith, c.loop-place.invariant.0) in
    subst (λ n. After c.args.wakeup (take n c.args.queue.now)) same
    (front_after c.args.wakeup c.args.queue.now (c.loop-place.place - 1) _ c.requires within c.if-queue-place.true)
