use Rattle.std.proofs.Common.{sym, ◌∙◌, arith}
use Rattle.linux_told.proofs.Steps.{climbed_above, climbed_here}
use Rattle.linux_told.proofs.told.+climb.Goals as goal

pub returns-in-Some : goal.returns-in-Some
returns-in-Some t c =
    let some = c.if-levels-eq0.false in
    sym (climbed_here c.args.seen.now c.args.now c.args.told c.args.levels c.args.event
    c.args.pointer c.answer_here.result c.in-Some.answer (omega (arith, some))
    c.answer_here.ensures c.in-Some.is)

pub returns-in-None : goal.returns-in-None
returns-in-None t c =
    let some = c.if-levels-eq0.false in
    c.climb.ensures
    ∙ sym (climbed_above c.args.seen.now c.args.now c.args.told c.args.levels c.args.event
    c.args.pointer c.answer_here.result c.group_of-above.result (omega (arith, some))
    c.answer_here.ensures c.in-None.is c.group_of-above.ensures)
