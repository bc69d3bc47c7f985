use Rattle.std.proofs.Common.{◌≡◌, length}
use Rattle.std.specs.List.{list_any}
use Rattle.std.specs.Str.{bytes_eq}
use Rattle.text_words.specs.Words.{lines_of}
use Rattle.page_rows.proofs.fresh.has_line.Given as goal

abbrev pub invariant-loop-other : goal.invariant-loop-other
invariant-loop-other l =
    record {
      same :
          list_any (λ other. bytes_eq other l.line) (lines_of l.rest)
          ≡ list_any (λ other. bytes_eq other l.line) (lines_of l.text);
    }

abbrev pub decreases-loop-other : goal.decreases-loop-other
decreases-loop-other l = length l.rest
