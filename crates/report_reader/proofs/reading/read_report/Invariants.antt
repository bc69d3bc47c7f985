use Rattle.std.proofs.Common.{length}
use Rattle.report_reader.proofs.Reports.{ReadSoFar}
use Rattle.report_reader.proofs.reading.read_report.Given as goal

abbrev pub invariant-loop-words : goal.invariant-loop-words
invariant-loop-words l = ReadSoFar l.fn.bytes l.lines.items l.rest

abbrev pub decreases-loop-words : goal.decreases-loop-words
decreases-loop-words l = length l.rest
