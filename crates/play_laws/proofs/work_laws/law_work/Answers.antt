use Rattle.play_laws.proofs.Work.Turns.{work_is_bounded}
use Rattle.play_laws.proofs.work_laws.law_work.Goals as goal

pub returns : goal.returns
returns c = work_is_bounded
