use Rattle.play_laws.proofs.Jiffies.Jiffies.{in_its_jiffy_after_each}
use Rattle.play_laws.proofs.jiffy_laws.law_in_its_jiffy.Goals as goal

pub returns : goal.returns
returns c = in_its_jiffy_after_each
