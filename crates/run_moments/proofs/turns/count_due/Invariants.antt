use Rattle.std.proofs.Common.{◌≡◌, ◌≤◌, length}
use Rattle.std.specs.Prelude.{filter}
use Rattle.std.specs.List.{range_with_len}
use Rattle.std.specs.FinSet as set
use Rattle.run_moments.proofs.turns.count_due.Given as goal

abbrev pub invariant-loop-cpu : goal.invariant-loop-cpu
invariant-loop-cpu l = record {
  count : l.count ≡ length (filter (set.contains l.due) (range_with_len 0 l.cpu));
  few : l.count ≤ l.cpu;
}
