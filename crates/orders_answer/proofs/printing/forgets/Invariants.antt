use Rattle.std.proofs.Common.{◌≡◌, drop}
use Rattle.orders_answer.specs.Answers.{forgets}
use Rattle.orders_answer.proofs.printing.forgets.Given as goal

abbrev pub invariant-loop-timer : goal.invariant-loop-timer
invariant-loop-timer l = record {
  same : forgets (drop l.timer-index l.timers) ≡ forgets l.fn.timers;
}
