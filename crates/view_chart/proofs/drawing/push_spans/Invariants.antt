use Rattle.std.proofs.Common.{◌≡◌, ◌++◌, drop}
use Rattle.std.specs.List.{flat_map}
use Rattle.view_chart.specs.Drawing.{span_text}
use Rattle.view_chart.proofs.drawing.push_spans.Given as goal

abbrev pub invariant-loop-span : goal.invariant-loop-span
invariant-loop-span l =
    record {
      text :
          l.text.items ++ flat_map (span_text l.window) (drop l.span-index l.spans)
          ≡ l.fn.text.items ++ flat_map (span_text l.window) l.spans;
    }
