use Rattle.linux_laws.proofs.Steps.{runs_fit}
use Rattle.linux_laws.proofs.law_alarms.Goals as goal

pub returns : goal.returns
returns c = runs_fit c.law_step.ensures c.law_place.ensures c.law_frame.ensures
