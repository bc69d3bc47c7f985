use Rattle.std.proofs.Common.{◌≡◌, ◌≤◌, ◌++◌, drop}
use Rattle.view_chart.specs.Model.{arrows_from, chart_first_point}
use Rattle.view_chart.proofs.model.arrows_of.Given as goal

abbrev pub invariant-loop-line : goal.invariant-loop-line
invariant-loop-line l =
    record {
      low : l.point.column ≤ l.point.at;
      arrows :
          l.arrows.items ++ arrows_from l.window l.point (drop l.line-index l.lines)
          ≡ arrows_from l.window (chart_first_point l.window) l.lines;
    }
