use Rattle.step_play.proofs.Telling.Reevaluating.{ends}
use Rattle.step_play.proofs.telling_laws.law_ends.Goals as goal

pub returns : goal.returns
returns c = ends c.law_step.ensures
