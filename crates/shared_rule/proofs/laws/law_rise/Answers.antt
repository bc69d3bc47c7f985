use Rattle.shared_rule.proofs.Rising.{look, rise}
use Rattle.shared_rule.proofs.laws.law_rise.Goals as goal

pub returns-clause-look : goal.returns-clause-look
returns-clause-look c = λ o slots id g b ps low. look c.core_laws.ensures o slots id g b ps low

pub returns-clause-rise : goal.returns-clause-rise
returns-clause-rise c = λ o slots id g b k ps old new may.
    rise c.core_laws.ensures o slots id g b k ps old new may
