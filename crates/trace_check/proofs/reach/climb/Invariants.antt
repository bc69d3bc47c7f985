use Rattle.trace_check.specs.Told.{IsToldBelow}
use Rattle.trace_check.proofs.reach.climb.Given as goal

abbrev pub invariant-loop-level : goal.invariant-loop-level
invariant-loop-level g l = IsToldBelow l.core l.cpu.0 l.wheel l.level
