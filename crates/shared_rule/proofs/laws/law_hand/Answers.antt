use Rattle.shared_rule.proofs.Handing.{hands}
use Rattle.shared_rule.proofs.laws.law_hand.Goals as goal

pub returns : goal.returns
returns c = λ o. hands c.core_laws.ensures o
