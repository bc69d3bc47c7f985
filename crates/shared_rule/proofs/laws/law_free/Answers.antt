use Rattle.shared_rule.proofs.Freeing.{frees_child, frees_group}
use Rattle.shared_rule.proofs.laws.law_free.Goals as goal

pub returns-clause-group : goal.returns-clause-group
returns-clause-group c = λ o. frees_group c.core_laws.ensures o

pub returns-clause-child : goal.returns-clause-child
returns-clause-child c = λ o. frees_child c.core_laws.ensures o
