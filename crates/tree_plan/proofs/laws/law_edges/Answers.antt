use Rattle.tree_plan.proofs.Trees.{edge_laws}
use Rattle.tree_plan.proofs.laws.law_edges.Goals as goal

pub returns : goal.returns
returns c = edge_laws
