use Rattle.std.proofs.Common.{◌≡◌, ◌≤◌, ◌++◌, drop}
use Rattle.view_chart.specs.Marks.{folds_from}
use Rattle.view_chart.proofs.marks.folds_of.Given as goal

abbrev pub invariant-loop-line : goal.invariant-loop-line
invariant-loop-line l =
    record {
      low : l.point.column ≤ l.point.at;
      folds :
          l.folds.items ++ folds_from l.window l.point (drop l.line-index l.lines)
          ≡ folds_from l.window l.fn.begin l.lines;
    }
