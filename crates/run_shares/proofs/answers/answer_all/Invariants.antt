use Rattle.std.proofs.Common.{take}
use Rattle.run_shares.specs.Standing.{HaveAnswered}
use Rattle.run_shares.proofs.answers.answer_all.Given as goal

abbrev pub invariant-loop-op : goal.invariant-loop-op
invariant-loop-op g l =
    HaveAnswered g.N.RunName.table g.N.RunName.opening l.now (take l.op-index l.ops) l.fn.pass
    l.pass l.fn.lines.items l.lines.items
