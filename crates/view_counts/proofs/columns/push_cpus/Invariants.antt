use Rattle.std.proofs.Common.{◌≡◌, ◌++◌}
use Rattle.std.specs.Prelude.{drop}
use Rattle.view_counts.specs.Columns.{cpu_lines}
use Rattle.view_counts.proofs.columns.push_cpus.Given as goal

abbrev pub invariant-loop-cpu : goal.invariant-loop-cpu
invariant-loop-cpu l =
    l.text.items ++ cpu_lines l.cpu (drop l.cpu l.cpus) ≡ l.fn.text.items ++ cpu_lines 0 l.fn.cpus
