use Rattle.std.proofs.Common.{◌≡◌, drop}
use Rattle.text_words.specs.Words.{lines_of}
use Rattle.view_hints.proofs.lines.line_at.Given as goal

abbrev pub invariant-loop-before : goal.invariant-loop-before
invariant-loop-before l =
    record { rest : lines_of l.rest ≡ drop l._before (lines_of l.bytes) }
