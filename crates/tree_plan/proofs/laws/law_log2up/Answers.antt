use Rattle.tree_plan.proofs.Powers.{log2up_reaches, log2up_least}
use Rattle.tree_plan.proofs.laws.law_log2up.Goals as goal

pub returns : goal.returns
returns c = λ x. record { reaches = log2up_reaches x; least = log2up_least x }
