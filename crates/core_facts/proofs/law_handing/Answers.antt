use Rattle.core_facts.proofs.HandingRead.{each_hands_on}
use Rattle.core_facts.proofs.law_handing.Goals as goal

pub returns : goal.returns
returns c = each_hands_on
