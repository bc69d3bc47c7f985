use Rattle.core_facts.proofs.Cover.Settling.{first_settled}
use Rattle.core_facts.proofs.cover_laws.law_cover.Goals as goal

pub returns : goal.returns
returns c = first_settled
