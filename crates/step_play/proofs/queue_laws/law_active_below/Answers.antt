use Rattle.step_play.proofs.Queues.Sights.{active_below}
use Rattle.step_play.proofs.queue_laws.law_active_below.Goals as goal

pub returns : goal.returns
returns c = active_below
