use Rattle.step_play.proofs.Queues.Firsts.{each_slot}
use Rattle.step_play.proofs.queue_laws.law_each_slot.Goals as goal

pub returns : goal.returns
returns c = each_slot
