use Rattle.std.proofs.Common.{length}
use Rattle.wheel_bench.proofs.drain.Given as goal

abbrev pub decreases-loop-ran : goal.decreases-loop-ran
decreases-loop-ran l = length l.base.plain.items
