use Rattle.step_play.proofs.Queues.Tops.{each_top}
use Rattle.step_play.proofs.queue_laws.law_each_top.Goals as goal

pub returns : goal.returns
returns c = each_top
