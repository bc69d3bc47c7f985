use Rattle.std.proofs.Common.{◌≡◌, length}
use Rattle.table_stress.specs.Quiet.{QuietFrom}
use Rattle.table_stress.proofs.turns.take_rounds.Given as goal

abbrev pub invariant-loop : goal.invariant-loop
invariant-loop g l = record {
  each : QuietFrom g.N.RunName.table g.N.RunName.opening l.fn.first l.passes;
  count : length l.passes ≡ length l.fn.passes;
}
