use Rattle.core_facts.proofs.Cover.Rests.{each_rests}
use Rattle.core_facts.proofs.cover_laws.law_rest.Goals as goal

pub returns : goal.returns
returns c = each_rests
