use Rattle.std.proofs.Common.{◌≡◌}
use Rattle.view_chart.specs.Model.{spans_below}
use Rattle.view_chart.proofs.model.spans_of.Given as goal

abbrev pub invariant-loop-number : goal.invariant-loop-number
invariant-loop-number l =
    record { spans : l.spans.items ≡ spans_below l.window l.number l.lines }
