use Rattle.std.proofs.Common.{◌≡◌, sym, ap, ◌∙◌, subst, arith, length}
use Rattle.deep_idle.specs.Device.{AreSettled, device_settled}
use Rattle.deep_idle.proofs.Settled.{settled_all}
use Rattle.deep_idle.proofs.settling.settle.Goals as goal

pub returns-clause-exactly : goal.returns-clause-exactly
returns-clause-exactly g c =
    let w = g.W.Wakeups.wakeups c.args.machine.now in
    let all : c.loop-cpu.cpu ≡ length c.args.device.now.sleepers =
    omega (arith, c.loop-cpu-test.false, c.loop-cpu.auto.cpu-end, c.len-cpu-end.ensures.len) in
    let is = c.loop-cpu.invariant.0
    ∙ ap (λ n. device_settled w n c.args.device.now) all in
    subst (AreSettled w) (sym is) (settled_all w c.args.device.now)
