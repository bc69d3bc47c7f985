use Rattle.wheel_bench.proofs.Arms.{Armed}
use Rattle.wheel_bench.proofs.arm_all.Given as goal

abbrev pub invariant-loop-i : goal.invariant-loop-i
invariant-loop-i l = Armed l.base l.i l.fn.base.capacity
