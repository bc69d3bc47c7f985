use Rattle.core_facts.proofs.ReachRead.{each_keeps}
use Rattle.core_facts.proofs.law_frame.Goals as goal

pub returns : goal.returns
returns c = each_keeps c.law_sizes.ensures
