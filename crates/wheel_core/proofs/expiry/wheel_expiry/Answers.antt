use Rattle.wheel_core.proofs.Levels.{keeps_time}
use Rattle.std.proofs.Common.{arith}
use Rattle.wheel_core.proofs.expiry.wheel_expiry.Goals as goal

pub returns-clause-keeps_time : goal.returns-clause-keeps_time
returns-clause-keeps_time c =
    keeps_time c.args.expires c.args.clock c.requires.expires_in_time (omega arith) (omega arith)
