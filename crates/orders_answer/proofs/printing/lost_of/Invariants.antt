use Rattle.std.proofs.Common.{◌≡◌, ◌+◌, drop}
use Rattle.orders_answer.specs.Answers.{lost_orders, sum_of}
use Rattle.orders_answer.proofs.printing.lost_of.Given as goal

abbrev pub invariant-loop-end : goal.invariant-loop-end
invariant-loop-end l = record {
  same : l.count + sum_of lost_orders (drop l.end-index l.ends) ≡ sum_of lost_orders l.fn.ends;
}
