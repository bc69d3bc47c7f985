use Rattle.core_laws.proofs.Cpus.Keeps.{cpus_stay_fit}
use Rattle.core_laws.proofs.cpu_laws.law_cpus.Goals as goal

pub returns : goal.returns
returns c = cpus_stay_fit
