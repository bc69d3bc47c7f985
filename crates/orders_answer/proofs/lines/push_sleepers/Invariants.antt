use Rattle.std.proofs.Common.{◌≡◌, ◌++◌, drop}
use Rattle.std.specs.List.{flat_map}
use Rattle.orders_answer.specs.Lines.{sleeper_shown}
use Rattle.orders_answer.proofs.lines.push_sleepers.Given as goal

abbrev pub invariant-loop-sleeper : goal.invariant-loop-sleeper
invariant-loop-sleeper l = record {
  same : l.text.items ++ flat_map sleeper_shown (drop l.sleeper-index l.sleepers) ≡ l.fn.text.items ++ flat_map sleeper_shown l.fn.sleepers;
}
