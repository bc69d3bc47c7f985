use Rattle.shared_rule.proofs.Finishing.{ends}
use Rattle.shared_rule.proofs.laws.law_ends.Goals as goal

pub returns : goal.returns
returns c = ends c.core_laws.ensures
