use Rattle.core_laws.proofs.Timers.Keeps.{timers_stay_fit}
use Rattle.core_laws.proofs.timer_laws.law_timers.Goals as goal

pub returns : goal.returns
returns c = timers_stay_fit
