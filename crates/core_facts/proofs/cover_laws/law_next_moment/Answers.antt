use Rattle.core_facts.proofs.Cover.Rests.{each_wakes}
use Rattle.core_facts.proofs.cover_laws.law_next_moment.Goals as goal

pub returns : goal.returns
returns c = each_wakes
