use Rattle.std.proofs.Common.{length}
use Rattle.wheel_base.proofs.Moving.{Moved}
use Rattle.wheel_base.proofs.moves.move_all.Given as goal

abbrev pub invariant-loop-key : goal.invariant-loop-key
invariant-loop-key l = Moved l.fn.from.filed l.fn.into.room l.from l.into

abbrev pub decreases-loop-key : goal.decreases-loop-key
decreases-loop-key l = length l.from.filed
