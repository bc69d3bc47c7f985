use Rattle.std.proofs.Common.{◌≡◌, [], length}
use Rattle.std.specs.Prelude.{get_or}
use Rattle.text_words.specs.Words.{lines_of}
use Rattle.linux_shown.proofs.before.line_behind.Given as goal

abbrev pub invariant-loop-text : goal.invariant-loop-text
invariant-loop-text l = get_or (lines_of l.rest) l.left [] ≡ get_or (lines_of l.fn.bytes) l.count []

abbrev pub decreases-loop-text : goal.decreases-loop-text
decreases-loop-text l = length l.rest
