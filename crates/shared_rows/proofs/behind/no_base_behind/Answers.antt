use Rattle.std.proofs.Common.{arith}
use Rattle.shared_table.proofs.Behind.{behind_nowhere}
use Rattle.shared_rows.proofs.behind.no_base_behind.Goals as goal

pub returns : goal.returns
returns c = λ yes.
    behind_nowhere c.args.core.now c.loop-cpu.cpu
    (let count = c.count-cpu-end.ensures in let end = c.loop-cpu-test.false in
    omega (arith, count, end))
    c.loop-cpu.invariant
