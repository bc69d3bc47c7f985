use Rattle.walk_rules.proofs.Trees.{hierarchy}
use Rattle.walk_rules.proofs.laws.law_hierarchy.Goals as goal

pub returns : goal.returns
returns c = λ t planned. hierarchy t (c.law_edges.ensures t planned) (c.law_paths.ensures t planned)
