use Rattle.core_laws.proofs.Edges.Marks.{marks_follow}
use Rattle.core_laws.proofs.edge_laws.law_marks.Goals as goal

pub returns : goal.returns
returns c = marks_follow
