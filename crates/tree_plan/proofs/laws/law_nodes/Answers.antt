use Rattle.tree_plan.proofs.Nodes.{node_laws}
use Rattle.tree_plan.proofs.laws.law_nodes.Goals as goal

pub returns : goal.returns
returns c = node_laws
