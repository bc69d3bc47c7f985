use Rattle.shared_rule.proofs.Ending.{reevaluates_own, rests}
use Rattle.shared_rule.proofs.laws.law_finish.Goals as goal

pub returns-clause-rest : goal.returns-clause-rest
returns-clause-rest c = λ o. rests c.core_laws.ensures o

pub returns-clause-reevaluate : goal.returns-clause-reevaluate
returns-clause-reevaluate c = λ o. reevaluates_own c.core_laws.ensures o
