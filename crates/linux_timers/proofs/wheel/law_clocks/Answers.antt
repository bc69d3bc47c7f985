use Rattle.linux_timers.proofs.Buckets.{finds_clocks}
use Rattle.linux_timers.proofs.wheel.law_clocks.Goals as goal

pub returns : goal.returns
returns c = finds_clocks
