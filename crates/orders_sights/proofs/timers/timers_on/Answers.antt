use Rattle.std.proofs.Common.{◌≡◌, arith, subst}
use Rattle.orders_sights.specs.Gathering.{Gathered}
use Rattle.orders_sights.specs.Seeing.{IsSeenTimer, PassesTimer}
use Rattle.orders_sights.proofs.GatherLaws.{grown, none_yet}
use Rattle.orders_sights.proofs.timers.timers_on.Goals as goal

pub loop-timer-init : goal.loop-timer-init
loop-timer-init c =
    none_yet (PassesTimer c.args.world.now c.args.cpu.0) (IsSeenTimer c.args.world.now c.args.cpu.0)
    _ c.new-list.ensures.items

pub loop-timer-preserved : goal.loop-timer-preserved
loop-timer-preserved c =
    grown (PassesTimer c.args.world.now c.args.cpu.0) (IsSeenTimer c.args.world.now c.args.cpu.0)
    c.loop-timer.timer c.loop-timer.list.items _ c.loop-timer.invariant
    c.in_ok-push_timer.ensures

pub returns : goal.returns
returns c =
    let e : c.loop-timer.timer ≡ c.args.world.now.timers =
    omega (arith, c.timers-timer-end.ensures) in
    subst
    (λ n. Gathered (PassesTimer c.args.world.now c.args.cpu.0)
    (IsSeenTimer c.args.world.now c.args.cpu.0) n c.loop-timer.list.items) e
    c.loop-timer.invariant
