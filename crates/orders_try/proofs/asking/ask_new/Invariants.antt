use Rattle.std.proofs.Common.{◌≡◌}
use Rattle.orders_try.specs.Making.{steps_in}
use Rattle.orders_try.proofs.asking.ask_new.Given as goal

abbrev pub invariant-loop-timer : goal.invariant-loop-timer
invariant-loop-timer l = steps_in l.lines ≡ steps_in l.fn.lines
