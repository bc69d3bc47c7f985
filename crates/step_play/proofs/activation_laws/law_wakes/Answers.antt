use Rattle.step_play.proofs.Activation.Waking.{wakes}
use Rattle.step_play.proofs.activation_laws.law_wakes.Goals as goal

pub returns : goal.returns
returns c = wakes c.law_step.ensures c.law_paths.ensures c.law_below.ensures
