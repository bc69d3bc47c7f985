use Rattle.std.proofs.Common.{◌≡◌, length}
use Rattle.shared_rows.specs.shared_table.Ended.{PassesFrom}
use Rattle.walk_rows.proofs.turns.take_rounds.Given as goal

abbrev pub invariant-loop : goal.invariant-loop
invariant-loop g l = record {
  each : PassesFrom g.N.RunName.table l.fn.first l.passes;
  count : length l.passes ≡ length l.fn.passes;
}
