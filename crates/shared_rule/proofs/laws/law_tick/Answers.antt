use Rattle.shared_rule.proofs.Ticking.{ticks}
use Rattle.shared_rule.proofs.laws.law_tick.Goals as goal

pub returns : goal.returns
returns c = λ o. ticks c.core_laws.ensures o
