use Rattle.linux_told.proofs.Answered.{each_answered}
use Rattle.linux_told.proofs.laws.law_rests.Goals as goal

pub returns : goal.returns
returns c = each_answered
