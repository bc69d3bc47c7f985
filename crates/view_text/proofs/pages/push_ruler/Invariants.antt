use Rattle.std.proofs.Common.{◌≡◌, ◌++◌, drop}
use Rattle.view_text.specs.Pages.{ruler_from}
use Rattle.view_text.proofs.pages.push_ruler.Given as goal

abbrev pub invariant-loop-point : goal.invariant-loop-point
invariant-loop-point l =
    record {
      text :
          l.text.items ++ ruler_from l.begin l.at (drop l.point-index l.points)
          ≡ l.fn.text.items ++ ruler_from l.begin 0 l.points;
    }
