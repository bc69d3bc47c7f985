use Rattle.step_play.proofs.Queues.Tops.{found_is_duty}
use Rattle.step_play.proofs.queue_laws.law_found_is_duty.Goals as goal

pub returns : goal.returns
returns c = found_is_duty
