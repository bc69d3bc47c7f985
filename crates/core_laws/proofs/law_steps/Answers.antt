use Rattle.core_laws.proofs.Together.{lists_lawful}
use Rattle.core_laws.proofs.law_steps.Goals as goal

pub returns : goal.returns
returns c = lists_lawful c.law_step.ensures
