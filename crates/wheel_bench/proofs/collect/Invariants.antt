use Rattle.std.proofs.Common.{length}
use Rattle.wheel_bench.proofs.collect.Given as goal

abbrev pub decreases-loop-item : goal.decreases-loop-item
decreases-loop-item l = length l.base.plain.items
