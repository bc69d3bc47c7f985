use Rattle.std.proofs.Common.{◌≡◌, ◌++◌, ◌+◌, drop}
use Rattle.orders_answer.specs.Answers.{ends_shown}
use Rattle.orders_answer.proofs.printing.push_ends.Given as goal

abbrev pub invariant-loop-end : goal.invariant-loop-end
invariant-loop-end l = record {
  number : l.number ≡ l.end-index + 1;
  same : l.text.items ++ ends_shown l.number (drop l.end-index l.ends) ≡ l.fn.text.items ++ ends_shown 1 l.fn.ends;
}
