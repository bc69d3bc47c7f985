use Rattle.std.proofs.Common.{◌+◌}
use Rattle.remote_expiry.specs.shared_calls.Arms.{timer_arming_of}
use Rattle.table_stress.proofs.Staying.{arm_stays}
use Rattle.table_stress.proofs.calls.arm_own.Goals as goal

pub returns : goal.returns
returns g c =
    let a = c.args.asked in
    arm_stays g.N.RunName.table g.N.RunName.opening c.args.now a.timer.0
    (timer_arming_of a.timer a.class (c.args.now + a.delay) a.job a.arg 1) c.arm.ensures.0
    c.args.pass.now c.arm.new.pass c.arm.result c.arm.ensures.2
