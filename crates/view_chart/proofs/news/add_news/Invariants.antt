use Rattle.std.proofs.Common.{◌≡◌, ◌≤◌, ◌++◌, drop, None}
use Rattle.view_chart.specs.Model.{chart_first_point}
use Rattle.view_chart.specs.News.{news_from}
use Rattle.view_chart.proofs.news.add_news.Given as goal

abbrev pub invariant-loop-line : goal.invariant-loop-line
invariant-loop-line l =
    record {
      low : l.point.column ≤ l.point.at;
      news :
          l.notes.items ++ news_from l.window l.cpu.0 l.point l.known (drop l.line-index l.lines)
          ≡ l.fn.notes.items ++ news_from l.window l.cpu.0 (chart_first_point l.window) None l.lines;
    }
