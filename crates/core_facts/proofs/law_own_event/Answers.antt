use Rattle.core_facts.proofs.ToldRead.{each_has_told_own}
use Rattle.core_facts.proofs.law_own_event.Goals as goal

pub returns : goal.returns
returns c = each_has_told_own
