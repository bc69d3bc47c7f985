use Rattle.std.proofs.Common.{◌≡◌, ◌≤◌, ◌++◌, drop}
use Rattle.view_chart.specs.Model.{course_begun, spans_from}
use Rattle.view_chart.proofs.model.add_spans.Given as goal

abbrev pub invariant-loop-line : goal.invariant-loop-line
invariant-loop-line l =
    record {
      low : l.course.point.column ≤ l.course.point.at;
      spans :
          l.spans.items ++ spans_from l.window l.cpu.0 l.course (drop l.line-index l.lines)
          ≡ l.fn.spans.items ++ spans_from l.window l.cpu.0 (course_begun l.window) l.lines;
    }
