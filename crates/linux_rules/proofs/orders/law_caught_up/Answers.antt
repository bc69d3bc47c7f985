use Rattle.std.proofs.Common.{arith}
use Rattle.std.specs.Prelude.{length}
use Rattle.linux_rules.proofs.Taking.{enough}
use Rattle.linux_rules.proofs.orders.law_caught_up.Goals as goal

pub returns : goal.returns
returns c = λ cs own group word ls. enough cs own group (length ls) word ls (omega arith)
