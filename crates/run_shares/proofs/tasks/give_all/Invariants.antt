use Rattle.std.proofs.Common.{take}
use Rattle.run_shares.specs.Progress.{GivenSoFar}
use Rattle.run_shares.proofs.tasks.give_all.Given as goal

abbrev pub invariant-loop-op : goal.invariant-loop-op
invariant-loop-op l = GivenSoFar (take l.op-index l.ops) l.fn.tasks.items l.tasks.items
