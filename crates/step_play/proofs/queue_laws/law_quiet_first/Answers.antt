use Rattle.step_play.proofs.Queues.Firsts.{quiet_first}
use Rattle.step_play.proofs.queue_laws.law_quiet_first.Goals as goal

pub returns : goal.returns
returns c = quiet_first
