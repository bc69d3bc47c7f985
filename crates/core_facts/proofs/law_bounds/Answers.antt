use Rattle.core_facts.proofs.RangesRead.{each_in_range}
use Rattle.core_facts.proofs.law_bounds.Goals as goal

pub returns : goal.returns
returns c = each_in_range
