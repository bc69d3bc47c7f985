use Rattle.delayed_work.proofs.Goings.{all_end}
use Rattle.delayed_work.proofs.play.law_plays_end.Goals as goal

pub returns : goal.returns
returns c = all_end
