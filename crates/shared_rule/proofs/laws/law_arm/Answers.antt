use Rattle.shared_rule.proofs.Arming.{arms}
use Rattle.shared_rule.proofs.laws.law_arm.Goals as goal

pub returns : goal.returns
returns c = λ o. arms c.core_laws.ensures o
