use Rattle.std.proofs.Common.{◌≡◌, ◌++◌, drop}
use Rattle.std.specs.List.{flat_map}
use Rattle.orders_answer.specs.Lines.{group_shown}
use Rattle.orders_answer.proofs.lines.push_groups.Given as goal

abbrev pub invariant-loop-group : goal.invariant-loop-group
invariant-loop-group l = record {
  same : l.text.items ++ flat_map group_shown (drop l.group-index l.groups) ≡ l.fn.text.items ++ flat_map group_shown l.fn.groups;
}
