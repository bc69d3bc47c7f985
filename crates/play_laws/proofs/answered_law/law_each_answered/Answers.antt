use Rattle.play_laws.proofs.Answered.Plays.{settled_after_each}
use Rattle.play_laws.proofs.answered_law.law_each_answered.Goals as goal

pub returns : goal.returns
returns c = settled_after_each
