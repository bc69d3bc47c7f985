use Rattle.step_play.proofs.Queues.Covers.{covers_alike}
use Rattle.step_play.proofs.queue_laws.law_covers_alike.Goals as goal

pub returns : goal.returns
returns c = covers_alike
