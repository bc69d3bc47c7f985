use Rattle.wheel_core.proofs.Levels.{by_shift}
use Rattle.wheel_core.proofs.expiry.rounded_up.Goals as goal

pub returns : goal.returns
returns c = by_shift c.args.level c.args.time c.requires.level c.requires.in_time
