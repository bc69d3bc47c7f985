use Rattle.std.proofs.Common.{◌≡◌, ◌++◌, drop}
use Rattle.std.specs.List.{flat_map}
use Rattle.orders_answer.specs.Lines.{thread_shown}
use Rattle.orders_answer.proofs.lines.push_threads.Given as goal

abbrev pub invariant-loop-thread : goal.invariant-loop-thread
invariant-loop-thread l = record {
  same : l.text.items ++ flat_map thread_shown (drop l.thread-index l.threads) ≡ l.fn.text.items ++ flat_map thread_shown l.fn.threads;
}
