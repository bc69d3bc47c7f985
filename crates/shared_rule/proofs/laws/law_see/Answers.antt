use Rattle.shared_rule.proofs.Looking.{sees, sees_state, sees_timer}
use Rattle.shared_rule.proofs.Slots.{sees_slot}
use Rattle.shared_rule.proofs.laws.law_see.Goals as goal

pub returns-clause-word : goal.returns-clause-word
returns-clause-word c = λ o. sees c.core_laws.ensures o

pub returns-clause-state : goal.returns-clause-state
returns-clause-state c = λ o. sees_state c.core_laws.ensures o

pub returns-clause-timer : goal.returns-clause-timer
returns-clause-timer c = λ o. sees_timer c.core_laws.ensures o

pub returns-clause-slot : goal.returns-clause-slot
returns-clause-slot c = λ o. sees_slot c.core_laws.ensures o
