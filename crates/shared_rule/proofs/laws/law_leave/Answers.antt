use Rattle.shared_rule.proofs.Reading.{reads_child, reads_group, reads_own}
use Rattle.shared_rule.proofs.Swapping.{swaps}
use Rattle.shared_rule.proofs.laws.law_leave.Goals as goal

pub returns-clause-group : goal.returns-clause-group
returns-clause-group c = λ o. reads_group c.core_laws.ensures o

pub returns-clause-child : goal.returns-clause-child
returns-clause-child c = λ o. reads_child c.core_laws.ensures o

pub returns-clause-own : goal.returns-clause-own
returns-clause-own c = λ o. reads_own c.core_laws.ensures o

pub returns-clause-swap : goal.returns-clause-swap
returns-clause-swap c = λ o. swaps c.core_laws.ensures o
