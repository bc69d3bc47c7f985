use Rattle.linux_laws.proofs.Rests.{rests_fit}
use Rattle.linux_laws.proofs.law_rest_alarms.Goals as goal

pub returns : goal.returns
returns c w name s lawful settled shows =
    rests_fit w lawful (c.law_rest.ensures w lawful settled) name s shows
