use Rattle.core_facts.proofs.Cover.Queuing.{each_once}
use Rattle.core_facts.proofs.cover_laws.law_once.Goals as goal

pub returns : goal.returns
returns c = each_once
