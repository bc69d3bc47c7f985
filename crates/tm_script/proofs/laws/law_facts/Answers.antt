use Rattle.tm_script.proofs.FactLaws.{scripts_have_facts}
use Rattle.tm_script.proofs.laws.law_facts.Goals as goal

pub returns : goal.returns
returns c = scripts_have_facts
