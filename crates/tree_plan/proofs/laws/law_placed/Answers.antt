use Rattle.tree_plan.proofs.Below.{placed_laws}
use Rattle.tree_plan.proofs.laws.law_placed.Goals as goal

pub returns : goal.returns
returns c = placed_laws
