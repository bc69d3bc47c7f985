use Rattle.std.proofs.Common.{take}
use Rattle.core_world.specs.Lists.{IsRun}
use Rattle.step_laws.proofs.running.make_each.Given as goal

abbrev pub invariant-loop-index : goal.invariant-loop-index
invariant-loop-index g l = IsRun (take l.index l.steps) l.fn.core l.core
