use Rattle.linux_timers.proofs.Buckets.{by_shift}
use Rattle.linux_timers.proofs.wheel.granule.Goals as goal

pub returns : goal.returns
returns c = by_shift c.args.level c.args.time c.requires
