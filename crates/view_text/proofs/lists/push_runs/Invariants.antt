use Rattle.std.proofs.Common.{◌≡◌, ◌++◌, drop}
use Rattle.std.specs.List.{flat_map}
use Rattle.view_text.specs.Lists.{run_text}
use Rattle.view_text.proofs.lists.push_runs.Given as goal

abbrev pub invariant-loop-arrow : goal.invariant-loop-arrow
invariant-loop-arrow l =
    record {
      text :
          l.text.items ++ flat_map run_text (drop l.arrow-index l.arrows)
          ≡ l.fn.text.items ++ flat_map run_text l.arrows;
    }
