use Rattle.core_laws.proofs.Events.Keeps.{events_stay_fit}
use Rattle.core_laws.proofs.event_laws.law_events.Goals as goal

pub returns : goal.returns
returns c = events_stay_fit
