use Rattle.tree_plan.proofs.Trees.{cut_laws, edge_laws, level_laws}
use Rattle.tree_plan.proofs.Walks.{path_laws}
use Rattle.tree_plan.proofs.laws.law_paths.Goals as goal

pub returns : goal.returns
returns c = λ t planned. path_laws t (cut_laws t planned) (edge_laws t planned) (level_laws t planned)
