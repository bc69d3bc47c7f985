use Rattle.std.proofs.Common.{◌≡◌, length}
use Rattle.text_words.specs.Words.{lines_of}
use Rattle.work_script.specs.Faults.{known_first, with_count}
use Rattle.work_script.specs.Reading.{body_from}
use Rattle.work_script.specs.Steps.{with_draft}
use Rattle.work_script.proofs.DraftLaws.{IsKnown}
use Rattle.work_script.proofs.reading.read_body.Given as goal

abbrev pub invariant-loop-line : goal.invariant-loop-line
invariant-loop-line l = record {
  same : with_draft l.draft (body_from (lines_of l.rest) l.draft.known) ≡ with_count l.fn.count (body_from (lines_of l.fn.bytes) (known_first l.fn.count));
  known : IsKnown l.draft.known;
}

abbrev pub decreases-loop-line : goal.decreases-loop-line
decreases-loop-line l = length l.rest
