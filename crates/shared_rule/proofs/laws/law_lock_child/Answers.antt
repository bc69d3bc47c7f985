use Rattle.shared_rule.proofs.Locking.{locks_child}
use Rattle.shared_rule.proofs.laws.law_lock_child.Goals as goal

pub returns : goal.returns
returns c = λ o. locks_child c.core_laws.ensures o
