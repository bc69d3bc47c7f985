use Rattle.play_laws.proofs.Jiffies.Looks.{looks_are_whole}
use Rattle.play_laws.proofs.jiffy_laws.law_looks.Goals as goal

pub returns : goal.returns
returns c = looks_are_whole
