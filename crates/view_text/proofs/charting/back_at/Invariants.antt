use Rattle.std.proofs.Common.{◌≡◌, ◌+◌, drop}
use Rattle.view_chart.specs.Charts.{back_from}
use Rattle.view_text.proofs.charting.back_at.Given as goal

abbrev pub invariant-loop-index : goal.invariant-loop-index
invariant-loop-index l =
    record {
      number : back_from (l.index + 1) l.before (drop l.index l.lines) ≡ back_from 1 0 l.lines;
    }
