use Rattle.core_facts.proofs.Cover.Settling.{each_settled}
use Rattle.core_facts.proofs.cover_laws.law_each_settled.Goals as goal

pub returns : goal.returns
returns c = each_settled
