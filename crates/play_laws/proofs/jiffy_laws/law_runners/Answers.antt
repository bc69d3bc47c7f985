use Rattle.play_laws.proofs.Jiffies.Runners.{runners_are_online}
use Rattle.play_laws.proofs.jiffy_laws.law_runners.Goals as goal

pub returns : goal.returns
returns c = runners_are_online
