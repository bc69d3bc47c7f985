use Rattle.std.proofs.Common.{◌≡◌, ◌++◌, length}
use Rattle.text_words.specs.Words.{words_of}
use Rattle.page_rows.specs.Rows.{filled}
use Rattle.page_rows.proofs.filling.push_filled.Given as goal

abbrev pub invariant-loop-word : goal.invariant-loop-word
invariant-loop-word l =
    record {
      text :
          l.text.items ++ filled l.indent l.width l.at (words_of l.rest)
          ≡ l.fn.text.items ++ filled l.indent l.width 0 (words_of l.words);
    }

abbrev pub decreases-loop-word : goal.decreases-loop-word
decreases-loop-word l = length l.rest
