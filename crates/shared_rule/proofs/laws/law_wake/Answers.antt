use Rattle.shared_rule.proofs.Waking.{wakes}
use Rattle.shared_rule.proofs.laws.law_wake.Goals as goal

pub returns : goal.returns
returns c = λ o slots id b p new may. wakes c.core_laws.ensures o slots id b p new may
