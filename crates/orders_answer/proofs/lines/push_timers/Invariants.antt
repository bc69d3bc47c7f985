use Rattle.std.proofs.Common.{◌≡◌, ◌++◌, drop}
use Rattle.std.specs.List.{flat_map}
use Rattle.orders_answer.specs.Lines.{timer_shown}
use Rattle.orders_answer.proofs.lines.push_timers.Given as goal

abbrev pub invariant-loop-timer : goal.invariant-loop-timer
invariant-loop-timer l = record {
  same : l.text.items ++ flat_map timer_shown (drop l.timer-index l.timers) ≡ l.fn.text.items ++ flat_map timer_shown l.fn.timers;
}
