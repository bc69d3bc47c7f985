use Rattle.std.proofs.Common.{◌≡◌, arith, length, subst}
use Rattle.orders_sights.specs.Seeing.{AreSeenBelow}
use Rattle.orders_sights.proofs.SeenLaws.{more_seen, none_seen}
use Rattle.orders_sights.proofs.timers.timers_seen.Goals as goal

pub loop-cpu-init : goal.loop-cpu-init
loop-cpu-init c = none_seen c.args.world.now _ c.new-list.ensures.items

pub loop-cpu-preserved : goal.loop-cpu-preserved
loop-cpu-preserved c =
    more_seen c.args.world.now c.loop-cpu.cpu c.loop-cpu.list.items _ c.loop-cpu.invariant
    c.in_ok-push_cpu.ensures

pub returns : goal.returns
returns c =
    let e : c.loop-cpu.cpu ≡ length c.args.world.now.cpus =
    omega (arith, c.count-cpu-end.ensures) in
    subst (λ n. AreSeenBelow c.args.world.now n c.loop-cpu.list.items) e c.loop-cpu.invariant
