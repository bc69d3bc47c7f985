use Rattle.std.proofs.Common.{◌≡◌, length}
use Rattle.text_words.specs.Words.{lines_of}
use Rattle.tm_script.specs.Reading.{start, read_from}
use Rattle.tm_script.proofs.KnownLaws.{IsKnown}
use Rattle.tm_script.proofs.reading.read_lines.Given as goal

abbrev pub invariant-loop-line : goal.invariant-loop-line
invariant-loop-line l =
    record { same : read_from (lines_of l.rest) l.draft ≡ read_from (lines_of l.fn.bytes) start; known : IsKnown l.draft.known }

abbrev pub decreases-loop-line : goal.decreases-loop-line
decreases-loop-line l = length l.rest
