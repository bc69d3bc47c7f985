use Rattle.std.proofs.Common.{rules, sym}
use Rattle.shared_rule.proofs.Starting.{spot_found}
use Rattle.shared_table.proofs.Spots.{spot_nowhere}
use Rattle.shared_table.proofs.first_words.spot.Goals as goal

pub returns-in_err-cpu : goal.returns-in_err-cpu
returns-in_err-cpu g c =
    let gone = spot_nowhere c.args.core.now c.kept.ensures.fits c.args.timer.0
    c.in_err-cpu.ensures.nowhere in
    search rules

pub returns : goal.returns
returns g c =
    sym (spot_found c.args.core.now c.kept.ensures.fits c.args.timer.0 c.in_ok-cpu.cpu.0
    c.in_ok-class.class (search rules))
