use Rattle.step_play.proofs.Telling.Offlining.{offlines}
use Rattle.step_play.proofs.telling_laws.law_offlines.Goals as goal

pub returns : goal.returns
returns c = offlines c.law_step.ensures
