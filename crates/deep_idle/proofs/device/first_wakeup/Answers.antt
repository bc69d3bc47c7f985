use Rattle.std.proofs.Common.{◌<◌, length, arith}
use Rattle.tm_base.specs.declared.names.TheConstants.{NEVER}
use Rattle.deep_idle.proofs.Kept.{last_at}
use Rattle.deep_idle.proofs.device.first_wakeup.Goals as goal

pub returns : goal.returns
returns c =
    let some : 0 < length c.args.queue.now = omega arith in
    last_at NEVER c.args.queue.now _ some
