use Rattle.tree_plan.proofs.Trees.{cut_laws}
use Rattle.tree_plan.proofs.laws.law_cuts.Goals as goal

pub returns : goal.returns
returns c = cut_laws
