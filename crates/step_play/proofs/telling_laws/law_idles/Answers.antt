use Rattle.step_play.proofs.Telling.Idling.{idles}
use Rattle.step_play.proofs.telling_laws.law_idles.Goals as goal

pub returns : goal.returns
returns c = idles c.law_step.ensures
