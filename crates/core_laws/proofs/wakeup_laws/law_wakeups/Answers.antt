use Rattle.core_laws.proofs.Wakeups.Keeps.{wakeups_stay_fit}
use Rattle.core_laws.proofs.wakeup_laws.law_wakeups.Goals as goal

pub returns : goal.returns
returns c = wakeups_stay_fit
