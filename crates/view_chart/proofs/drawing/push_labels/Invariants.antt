use Rattle.std.proofs.Common.{◌≡◌, ◌++◌}
use Rattle.view_chart.specs.Drawing.{labels_below}
use Rattle.view_chart.proofs.drawing.push_labels.Given as goal

abbrev pub invariant-loop-row : goal.invariant-loop-row
invariant-loop-row l =
    record { text : l.text.items ≡ l.fn.text.items ++ labels_below l.window l.row }
