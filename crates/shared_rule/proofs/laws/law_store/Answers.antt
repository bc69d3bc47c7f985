use Rattle.shared_rule.proofs.Storing.{stores}
use Rattle.shared_rule.proofs.laws.law_store.Goals as goal

pub returns : goal.returns
returns c = λ o. stores c.core_laws.ensures o
