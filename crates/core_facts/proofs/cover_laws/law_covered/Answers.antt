use Rattle.core_facts.proofs.Cover.Covering.{each_covered}
use Rattle.core_facts.proofs.cover_laws.law_covered.Goals as goal

pub returns : goal.returns
returns c = each_covered
