use Rattle.step_play.proofs.Queues.Looks.{each_names_alike}
use Rattle.step_play.proofs.queue_laws.law_names_alike.Goals as goal

pub returns : goal.returns
returns c = each_names_alike
