use Rattle.shared_rule.proofs.Noticing.{sees_cpu, sees_leaf}
use Rattle.shared_rule.proofs.laws.law_notice.Goals as goal

pub returns-clause-cpu : goal.returns-clause-cpu
returns-clause-cpu c = λ o. sees_cpu c.core_laws.ensures o

pub returns-clause-leaf : goal.returns-clause-leaf
returns-clause-leaf c = λ o. sees_leaf c.core_laws.ensures o
