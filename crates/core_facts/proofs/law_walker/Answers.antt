use Rattle.core_facts.proofs.WalkersRead.{each_walker_is}
use Rattle.core_facts.proofs.law_walker.Goals as goal

pub returns : goal.returns
returns c = each_walker_is
