use Rattle.std.proofs.Common.{◌≡◌, ◌≤◌, drop}
use Rattle.view_chart.specs.Model.{chart_first_point}
use Rattle.view_chart.specs.Charts.{end_from}
use Rattle.view_chart.proofs.charting.end_of.Given as goal

abbrev pub invariant-loop-line : goal.invariant-loop-line
invariant-loop-line l =
    record {
      low : l.point.column ≤ l.point.at;
      within : l.point.at ≤ l.window.to;
      end :
          end_from l.window l.point (drop l.line-index l.lines)
          ≡ end_from l.window (chart_first_point l.window) l.lines;
    }
