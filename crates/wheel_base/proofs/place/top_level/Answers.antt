use Rattle.std.proofs.Common.{arith}
use Rattle.wheel_base.proofs.Places.{under_top}
use Rattle.wheel_base.proofs.place.top_level.Goals as goal

pub returns-clause-top : goal.returns-clause-top
returns-clause-top c = λ level below granule.
    let top = under_top level c.args.wheel below (omega arith) granule in omega arith
