use Rattle.std.proofs.Common.{◌≡◌, ◌≤◌, ◌++◌, drop}
use Rattle.view_chart.specs.Model.{notes_from, chart_first_point}
use Rattle.view_chart.proofs.model.all_notes.Given as goal

abbrev pub invariant-loop-line : goal.invariant-loop-line
invariant-loop-line l =
    record {
      low : l.point.column ≤ l.point.at;
      notes :
          l.notes.items ++ notes_from l.window l.point (drop l.line-index l.lines)
          ≡ notes_from l.window (chart_first_point l.window) l.lines;
    }
