use Rattle.std.proofs.Common.{◌≡◌, ◌≤◌, ◌+◌, length}
use Rattle.text_words.specs.Words.{lines_of}
use Rattle.tm_base.specs.declared.limits.TheConstants.{MOST_LINES}
use Rattle.trace_text.specs.Reading.{lines_from}
use Rattle.trace_text.specs.Steps.{with_front}
use Rattle.trace_text.proofs.reading.read_lines.Given as goal

abbrev pub invariant-loop-words : goal.invariant-loop-words
invariant-loop-words l = record {
  same : with_front l.lines (lines_from l.fn.limits l.line (lines_of l.rest)) ≡ lines_from l.fn.limits 6 (lines_of l.fn.bytes);
  room : l.line ≤ MOST_LINES + 1;
}

abbrev pub decreases-loop-words : goal.decreases-loop-words
decreases-loop-words l = length l.rest
