use Rattle.std.proofs.Common.{◌≡◌, ◌+◌, drop}
use Rattle.orders_answer.specs.Answers.{all_orders, sum_of}
use Rattle.orders_answer.proofs.printing.all_of.Given as goal

abbrev pub invariant-loop-end : goal.invariant-loop-end
invariant-loop-end l = record {
  same : l.count + sum_of all_orders (drop l.end-index l.ends) ≡ sum_of all_orders l.fn.ends;
}
