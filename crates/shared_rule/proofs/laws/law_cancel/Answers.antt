use Rattle.shared_rule.proofs.Cancelling.{cancels}
use Rattle.shared_rule.proofs.laws.law_cancel.Goals as goal

pub returns : goal.returns
returns c = λ o. cancels c.core_laws.ensures o
