use Rattle.play_laws.proofs.Jiffies.Endings.{each_has_ended_after_each}
use Rattle.play_laws.proofs.Jiffies.FirstDrains.{in_first_drain}
use Rattle.play_laws.proofs.jiffy_laws.law_ends.Goals as goal

pub returns-clause-each_has_ended : goal.returns-clause-each_has_ended
returns-clause-each_has_ended c = each_has_ended_after_each

pub returns-clause-in_first_drain : goal.returns-clause-in_first_drain
returns-clause-in_first_drain c = in_first_drain
