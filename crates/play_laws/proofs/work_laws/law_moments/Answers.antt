use Rattle.play_laws.proofs.Work.Courses.{each_comes}
use Rattle.play_laws.proofs.work_laws.law_moments.Goals as goal

pub returns : goal.returns
returns c = each_comes
