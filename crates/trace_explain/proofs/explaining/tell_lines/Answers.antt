use Rattle.std.proofs.Common.{arith}
use Rattle.trace_explain.proofs.TellLaws.{all_told}
use Rattle.trace_explain.proofs.explaining.tell_lines.Goals as goal

pub returns : goal.returns
returns g c =
    all_told c.args.core.now c.args.lines.now c.loop-line.line-index c.loop-line.core
    c.loop-line.made c.loop-line.text.items c.loop-line.invariant _
    (let end = c.loop-line-test.false in omega (arith, end))
    (rw c.from.ensures at c.in_ok-push_around.ensures)
