use Rattle.std.proofs.Common.{◌≡◌, ◌≤◌, ◌∷◌, ◌++◌, drop}
use Rattle.view_chart.specs.Model.{chart_first_point, points_from}
use Rattle.view_text.proofs.charting.points_of.Given as goal

abbrev pub invariant-loop-line : goal.invariant-loop-line
invariant-loop-line l =
    record {
      low : l.point.column ≤ l.point.at;
      points :
          l.points.items ++ points_from l.window l.point (drop l.line-index l.lines)
          ≡ chart_first_point l.window ∷ points_from l.window (chart_first_point l.window) l.lines;
    }
