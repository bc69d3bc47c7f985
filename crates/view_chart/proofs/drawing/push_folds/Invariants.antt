use Rattle.std.proofs.Common.{◌≡◌, ◌++◌, drop}
use Rattle.std.specs.List.{flat_map}
use Rattle.view_chart.specs.Drawing.{fold_text}
use Rattle.view_chart.proofs.drawing.push_folds.Given as goal

abbrev pub invariant-loop-fold : goal.invariant-loop-fold
invariant-loop-fold l =
    record {
      text :
          l.text.items ++ flat_map fold_text (drop l.fold-index l.folds)
          ≡ l.fn.text.items ++ flat_map fold_text l.folds;
    }
