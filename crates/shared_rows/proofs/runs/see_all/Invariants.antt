use Rattle.std.proofs.Common.{◌≡◌, length}
use Rattle.std.specs.Prelude.{vec_len}
use Rattle.shared_table.specs.Ended.{PassesFrom}
use Rattle.shared_rows.proofs.runs.see_all.Given as goal

abbrev pub invariant-loop-i : goal.invariant-loop-i
invariant-loop-i g l = record {
  count : length l.passes.items ≡ length l.fn.passes.items;
  len : vec_len l.passes ≡ vec_len l.fn.passes;
  each : PassesFrom g.N.RunName.table l.fn.first l.passes.items;
}
