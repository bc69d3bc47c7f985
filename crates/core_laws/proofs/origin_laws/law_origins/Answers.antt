use Rattle.core_laws.proofs.Origins.Keeps.{origins_stay}
use Rattle.core_laws.proofs.origin_laws.law_origins.Goals as goal

pub returns : goal.returns
returns c = origins_stay
