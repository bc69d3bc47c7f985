use Rattle.play_laws.proofs.Told.RunsLaw.{each_has_its_run}
use Rattle.play_laws.proofs.told_laws.law_each_runs.Goals as goal

pub returns : goal.returns
returns c = each_has_its_run
