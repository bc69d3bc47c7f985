use Rattle.step_play.proofs.Activation.Waking.{comes}
use Rattle.step_play.proofs.activation_laws.law_comes.Goals as goal

pub returns : goal.returns
returns c = comes c.law_step.ensures c.law_paths.ensures c.law_below.ensures
