use Rattle.std.proofs.Common.{◌≡◌}
use Rattle.std.specs.Prelude.{drop}
use Rattle.std.specs.List.{fold}
use Rattle.view_counts.specs.Rows.{both, total}
use Rattle.view_counts.proofs.rows.total.Given as goal

abbrev pub invariant-loop-counts : goal.invariant-loop-counts
invariant-loop-counts l = fold both l.all (drop l.counts-index l.cpus) ≡ total l.fn.cpus
