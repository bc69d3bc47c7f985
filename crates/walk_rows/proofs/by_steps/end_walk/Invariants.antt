use Rattle.walk_rows.specs.Driven.{DrivenOn}
use Rattle.walk_rows.proofs.by_steps.end_walk.Given as goal

abbrev pub invariant-loop : goal.invariant-loop
invariant-loop g l = DrivenOn l.fn.part l.part
