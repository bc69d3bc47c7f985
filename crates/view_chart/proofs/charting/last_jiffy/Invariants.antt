use Rattle.std.proofs.Common.{◌≡◌, drop}
use Rattle.view_chart.specs.Charts.{last_jiffy}
use Rattle.view_chart.proofs.charting.last_jiffy.Given as goal

abbrev pub invariant-loop-line : goal.invariant-loop-line
invariant-loop-line l =
    record {
      last : last_jiffy l.last (drop l.line-index l.lines) ≡ last_jiffy 0 l.lines;
    }
