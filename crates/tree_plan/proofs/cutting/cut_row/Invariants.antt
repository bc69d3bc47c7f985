use Rattle.std.proofs.Common.{◌≡◌, ◌+◌, ◌≤◌, ◌++◌}
use Rattle.tree_plan.specs.Store.{groups_for, run_lengths, listed}
use Rattle.tree_plan.proofs.cutting.cut_row.Given as goal

abbrev pub invariant-loop-left : goal.invariant-loop-left
invariant-loop-left l = record {
  fits : l.place + l.left ≤ l.fn.first + l.fn.members;
  behind : l.place + groups_for l.left ≡ l.fn.first + groups_for l.fn.members;
  rest : l.groups.items ++ listed l.level l.place (run_lengths l.left) ≡ l.initial.groups.items ++ listed l.level l.fn.first (run_lengths l.fn.members);
}

abbrev pub decreases-loop-left : goal.decreases-loop-left
decreases-loop-left l = l.left
