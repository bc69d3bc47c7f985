use Rattle.core_laws.proofs.Tops.Law.{tops_stay_fit}
use Rattle.core_laws.proofs.top_laws.law_tops.Goals as goal

pub returns : goal.returns
returns c = tops_stay_fit
