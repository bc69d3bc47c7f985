use Rattle.step_play.proofs.Queues.Looks.{each_can_be_taken}
use Rattle.step_play.proofs.queue_laws.law_named_can_be_taken.Goals as goal

pub returns : goal.returns
returns c = each_can_be_taken
