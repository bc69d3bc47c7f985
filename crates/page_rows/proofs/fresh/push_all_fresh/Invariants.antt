use Rattle.std.proofs.Common.{◌≡◌, ◌++◌, length}
use Rattle.std.specs.List.{flat_map}
use Rattle.text_words.specs.Words.{lines_of}
use Rattle.page_rows.specs.Rows.{fresh_row}
use Rattle.page_rows.proofs.fresh.push_all_fresh.Given as goal

abbrev pub invariant-loop-line : goal.invariant-loop-line
invariant-loop-line l =
    record {
      text :
          l.text.items ++ flat_map (fresh_row l.sheet l.shown) (lines_of l.rest)
          ≡ l.fn.text.items ++ flat_map (fresh_row l.sheet l.shown) (lines_of l.lines);
    }

abbrev pub decreases-loop-line : goal.decreases-loop-line
decreases-loop-line l = length l.rest
