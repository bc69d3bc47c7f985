use Rattle.core_facts.proofs.Cover.Runs.{each_answered}
use Rattle.core_facts.proofs.cover_laws.law_answered.Goals as goal

pub returns : goal.returns
returns c = each_answered c.law_covered.ensures c.law_each_settled.ensures
