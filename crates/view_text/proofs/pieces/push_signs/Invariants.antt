use Rattle.std.proofs.Common.{◌≡◌, ◌++◌, replicate}
use Rattle.view_text.proofs.pieces.push_signs.Given as goal

abbrev pub invariant-loop-column : goal.invariant-loop-column
invariant-loop-column l =
    record { text : l.text.items ≡ l.fn.text.items ++ replicate l._column l.sign }
