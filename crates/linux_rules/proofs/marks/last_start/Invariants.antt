use Rattle.std.proofs.Common.{◌+◌, ◌≤◌, length}
use Rattle.text_words.specs.Words.{lines_of}
use Rattle.linux_rules.proofs.LastMark.{Kept, Lost}
use Rattle.linux_rules.proofs.marks.last_start.Given as goal

abbrev pub invariant-loop-text : goal.invariant-loop-text
invariant-loop-text l =
    record {
      lost : Lost (lines_of l.fn.bytes) l.passed l.last.0 (lines_of l.rest);
      kept : Kept (lines_of l.fn.bytes) (lines_of l.last.1.now) (lines_of l.rest);
      within : l.passed + length l.rest ≤ length l.fn.bytes;
    }

abbrev pub decreases-loop-text : goal.decreases-loop-text
decreases-loop-text l = length l.rest
