use Rattle.walk_rows.specs.Driven.{DrivenOn}
use Rattle.walk_rows.proofs.by_steps.make_all.Given as goal

abbrev pub invariant-loop-step : goal.invariant-loop-step
invariant-loop-step g l = DrivenOn l.fn.one l.one × DrivenOn l.fn.other l.other
