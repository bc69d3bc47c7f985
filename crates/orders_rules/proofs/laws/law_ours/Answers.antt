use Rattle.std.proofs.Common.{refl}
use Rattle.orders_rules.proofs.laws.law_ours.Goals as goal

pub returns : goal.returns
returns c w step = refl
