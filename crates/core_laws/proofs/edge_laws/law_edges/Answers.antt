use Rattle.core_laws.proofs.Edges.Keeps.{edges_stay_fit}
use Rattle.core_laws.proofs.edge_laws.law_edges.Goals as goal

pub returns : goal.returns
returns c = edges_stay_fit
