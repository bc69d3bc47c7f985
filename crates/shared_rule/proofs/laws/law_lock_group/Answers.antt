use Rattle.shared_rule.proofs.Locking.{locks}
use Rattle.shared_rule.proofs.laws.law_lock_group.Goals as goal

pub returns : goal.returns
returns c = λ o. locks c.core_laws.ensures o
