use Rattle.core_facts.proofs.PlacesRead.{each_place_fits}
use Rattle.core_facts.proofs.law_place.Goals as goal

pub returns : goal.returns
returns c = each_place_fits
