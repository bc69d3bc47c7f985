use Rattle.core_world.proofs.Quiet.{quiet_steps}
use Rattle.core_world.proofs.laws.law_quiet.Goals as goal

pub returns : goal.returns
returns c = quiet_steps
