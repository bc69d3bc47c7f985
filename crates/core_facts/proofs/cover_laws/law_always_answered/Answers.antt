use Rattle.core_facts.proofs.Cover.Runs.{always_answered}
use Rattle.core_facts.proofs.cover_laws.law_always_answered.Goals as goal

pub returns : goal.returns
returns c = always_answered c.law_start.ensures c.law_steps.ensures c.law_answered.ensures
