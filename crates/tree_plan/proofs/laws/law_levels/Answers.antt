use Rattle.tree_plan.proofs.Trees.{level_laws}
use Rattle.tree_plan.proofs.laws.law_levels.Goals as goal

pub returns : goal.returns
returns c = level_laws
