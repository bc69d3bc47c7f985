use Rattle.delayed_work.proofs.Story.{works_law}
use Rattle.delayed_work.proofs.calls.law_works.Goals as goal

pub returns : goal.returns
returns c = works_law
