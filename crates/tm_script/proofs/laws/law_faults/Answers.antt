use Rattle.tm_script.proofs.ScriptLaws.{faults_tell}
use Rattle.tm_script.proofs.laws.law_faults.Goals as goal

pub returns : goal.returns
returns c = faults_tell
