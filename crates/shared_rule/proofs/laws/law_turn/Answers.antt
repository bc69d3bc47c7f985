use Rattle.shared_rule.proofs.Resting.{idles, retells}
use Rattle.shared_rule.proofs.Turning.{enters, leaves}
use Rattle.shared_rule.proofs.laws.law_turn.Goals as goal

pub returns-clause-enter : goal.returns-clause-enter
returns-clause-enter c = λ o. enters c.core_laws.ensures o

pub returns-clause-leave : goal.returns-clause-leave
returns-clause-leave c = λ o. leaves c.core_laws.ensures o

pub returns-clause-idle : goal.returns-clause-idle
returns-clause-idle c = λ o. idles c.core_laws.ensures o

pub returns-clause-retell : goal.returns-clause-retell
returns-clause-retell c = λ o. retells c.core_laws.ensures o
