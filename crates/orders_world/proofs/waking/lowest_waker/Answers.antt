use Rattle.std.proofs.Common.{ℕ, arith}
use Rattle.orders_world.specs.Seeking.{KeepsBy}
use Rattle.orders_world.proofs.Scans.{each_of}
use Rattle.orders_world.proofs.Wakers.{none_past}
use Rattle.orders_world.proofs.waking.lowest_waker.Goals as goal

pub returns-clause-none : goal.returns-clause-none
returns-clause-none c =
    let w = c.args.world.now in
    let count = c.count-cpu-end.ensures in
    let end = c.loop-cpu-test.false in
    each_of (λ d. (at : ℕ) → KeepsBy w c.args.time d at → ⊥) c.loop-cpu.cpu c.loop-cpu.invariant
    (λ d past. none_past w c.args.time d (omega (arith, past, count, end)))
