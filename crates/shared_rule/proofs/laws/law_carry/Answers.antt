use Rattle.shared_rule.proofs.Carrying.{carries, carry_ends}
use Rattle.shared_rule.proofs.laws.law_carry.Goals as goal

pub returns-clause-begin : goal.returns-clause-begin
returns-clause-begin c = λ o. carries c.core_laws.ensures o

pub returns-clause-finish : goal.returns-clause-finish
returns-clause-finish c = λ o. carry_ends c.core_laws.ensures o
