use Rattle.std.proofs.Common.{◌≡◌, drop}
use Rattle.view_chart.specs.Charts.{last_cpu}
use Rattle.view_chart.proofs.charting.last_cpu.Given as goal

abbrev pub invariant-loop-line : goal.invariant-loop-line
invariant-loop-line l =
    record {
      last : last_cpu l.last (drop l.line-index l.lines) ≡ last_cpu 0 l.lines;
    }
