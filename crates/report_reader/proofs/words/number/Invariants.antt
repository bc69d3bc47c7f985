use Rattle.std.proofs.Common.{◌≡◌, drop}
use Rattle.report_reader.specs.Candidates.{number_from}
use Rattle.report_reader.proofs.words.number.Given as goal

abbrev pub invariant-loop-byte : goal.invariant-loop-byte
invariant-loop-byte l = number_from l.number (drop l.byte-index l.word) ≡ number_from 0 l.word
