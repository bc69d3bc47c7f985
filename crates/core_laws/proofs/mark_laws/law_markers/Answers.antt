use Rattle.core_laws.proofs.Marks.Keeps.{markers_stay_fit}
use Rattle.core_laws.proofs.mark_laws.law_markers.Goals as goal

pub returns : goal.returns
returns c = markers_stay_fit
