use Rattle.core_facts.proofs.MarkedRead.{each_mark_fits}
use Rattle.core_facts.proofs.law_mark.Goals as goal

pub returns : goal.returns
returns c = each_mark_fits
