use Rattle.shared_table.specs.shared_rule.Passes.{IsOfRun}
use Rattle.shared_rows.specs.Looks.{StaysAt}
use Rattle.shared_rows.proofs.runs.see_timers.Given as goal

abbrev pub invariant-loop-timer : goal.invariant-loop-timer
invariant-loop-timer g l = record {
  run : IsOfRun g.N.RunName.table l.pass;
  stays : StaysAt g.N.RunName.table l.fn.pass l.pass;
}
