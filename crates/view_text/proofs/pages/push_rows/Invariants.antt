use Rattle.std.proofs.Common.{◌≡◌, ◌++◌, drop, None}
use Rattle.view_text.specs.Pages.{rows_from}
use Rattle.view_text.proofs.pages.push_rows.Given as goal

abbrev pub invariant-loop-span : goal.invariant-loop-span
invariant-loop-span l =
    record {
      text :
          l.text.items ++ rows_from l.begin l.before (drop l.span-index l.spans)
          ≡ l.fn.text.items ++ rows_from l.begin None l.spans;
    }
