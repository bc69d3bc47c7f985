use Rattle.shared_rule.proofs.Taking.{releases, takes}
use Rattle.shared_rule.proofs.laws.law_take.Goals as goal

pub returns-clause-take : goal.returns-clause-take
returns-clause-take c = λ o. takes c.core_laws.ensures o

pub returns-clause-release : goal.returns-clause-release
returns-clause-release c = λ o. releases c.core_laws.ensures o
