use Rattle.shared_rule.proofs.Starting.{begins}
use Rattle.shared_rule.proofs.laws.law_begins.Goals as goal

pub returns : goal.returns
returns c = λ o made words h rest few spell.
    begins c.core_laws.ensures o made h rest few words spell
