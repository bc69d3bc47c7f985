use Rattle.step_play.proofs.Queues.Firsts.{any_first}
use Rattle.step_play.proofs.queue_laws.law_any_first.Goals as goal

pub returns : goal.returns
returns c = any_first
