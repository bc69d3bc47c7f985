use Rattle.std.proofs.Common.{◌≡◌, ◌++◌, drop}
use Rattle.std.specs.List.{flat_map}
use Rattle.view_chart.specs.Drawing.{arrow_text}
use Rattle.view_chart.proofs.drawing.push_arrows.Given as goal

abbrev pub invariant-loop-arrow : goal.invariant-loop-arrow
invariant-loop-arrow l =
    record {
      text :
          l.text.items ++ flat_map (arrow_text l.window) (drop l.arrow-index l.arrows)
          ≡ l.fn.text.items ++ flat_map (arrow_text l.window) l.arrows;
    }
