use Rattle.std.proofs.Common.{◌≡◌, ◌≤◌, ◌∷◌, ◌++◌, drop}
use Rattle.view_chart.specs.Marks.{ticks_from}
use Rattle.view_chart.proofs.marks.ticks_of.Given as goal

abbrev pub invariant-loop-line : goal.invariant-loop-line
invariant-loop-line l =
    record {
      low : l.point.column ≤ l.point.at;
      ticks :
          l.ticks.items ++ ticks_from l.window l.point l.last (drop l.line-index l.lines)
          ≡ l.fn.begin ∷ ticks_from l.window l.fn.begin l.fn.begin.column l.lines;
    }
