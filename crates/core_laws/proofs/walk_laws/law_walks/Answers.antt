use Rattle.core_laws.proofs.Walks.Keeps.{walks_stay_fit}
use Rattle.core_laws.proofs.walk_laws.law_walks.Goals as goal

pub returns : goal.returns
returns c = walks_stay_fit
