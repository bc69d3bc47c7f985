use Rattle.std.proofs.Common.{◌≡◌, ◌++◌}
use Rattle.std.specs.Prelude.{drop}
use Rattle.view_counts.specs.Rows.{cpu_rows}
use Rattle.view_counts.proofs.rows.push_cpus.Given as goal

abbrev pub invariant-loop-cpu : goal.invariant-loop-cpu
invariant-loop-cpu l =
    l.text.items ++ cpu_rows l.cpu (drop l.cpu l.cpus) ≡ l.fn.text.items ++ cpu_rows 0 l.fn.cpus
