use Rattle.std.proofs.Common.{sym, ◌∙◌, arith}
use Rattle.tm_script.proofs.Ranges.{spares_one, spares_none}
use Rattle.tm_script.proofs.isolated.has_spare.Goals as goal

pub returns-then-not-has : goal.returns-then-not-has
returns-then-not-has c = sym (spares_one c.args.count c.args.cpus.now c.loop-cpu.cpu c.loop-cpu-test.true (sym c.has.ensures.found ∙ c.if-not-has.true))

pub returns : goal.returns
returns c = sym (spares_none c.args.count c.args.cpus.now (λ cpu below. c.loop-cpu.invariant cpu (omega arith)))
