use Rattle.step_play.proofs.Telling.Letting.{lets_go}
use Rattle.step_play.proofs.telling_laws.law_lets_go.Goals as goal

pub returns : goal.returns
returns c = lets_go c.law_step.ensures
