use Rattle.std.proofs.Common.{◌≡◌, ◌++◌, drop}
use Rattle.std.specs.List.{flat_map}
use Rattle.view_chart.specs.Drawing.{tick_text}
use Rattle.view_chart.proofs.drawing.push_ticks.Given as goal

abbrev pub invariant-loop-tick : goal.invariant-loop-tick
invariant-loop-tick l =
    record {
      text :
          l.text.items ++ flat_map tick_text (drop l.tick-index l.ticks)
          ≡ l.fn.text.items ++ flat_map tick_text l.ticks;
    }
