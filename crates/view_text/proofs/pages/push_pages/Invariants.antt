use Rattle.std.proofs.Common.{◌≡◌, ◌++◌}
use Rattle.view_text.specs.Pages.{pages_below}
use Rattle.view_text.proofs.pages.push_pages.Given as goal

abbrev pub invariant-loop-page : goal.invariant-loop-page
invariant-loop-page l =
    record { text : l.text.items ≡ l.fn.text.items ++ pages_below l.page l.points l.spans }
