use Rattle.std.proofs.Common.{◌≡◌, ◌++◌, drop}
use Rattle.std.specs.List.{flat_map}
use Rattle.linux_view.specs.Texts.{broken_text}
use Rattle.linux_view.proofs.texts.push_misfits.Given as goal

abbrev pub invariant-loop-misfit : goal.invariant-loop-misfit
invariant-loop-misfit l =
    record {
      text :
          l.text.items ++ flat_map broken_text (drop l.misfit-index l.misfits)
          ≡ l.fn.text.items ++ flat_map broken_text l.misfits;
    }
