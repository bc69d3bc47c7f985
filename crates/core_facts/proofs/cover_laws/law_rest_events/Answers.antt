use Rattle.core_facts.proofs.Cover.Rests.{each_event_rests}
use Rattle.core_facts.proofs.cover_laws.law_rest_events.Goals as goal

pub returns : goal.returns
returns c = each_event_rests
