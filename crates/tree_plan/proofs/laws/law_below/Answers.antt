use Rattle.tree_plan.proofs.Below.{below_laws}
use Rattle.tree_plan.proofs.laws.law_below.Goals as goal

pub returns : goal.returns
returns c = below_laws
