use Rattle.base_calls.proofs.BasesRuns.{RanSoFar}
use Rattle.base_calls.proofs.bases.make_calls.Given as goal

abbrev pub invariant-loop-call : goal.invariant-loop-call
invariant-loop-call g l =
    RanSoFar l.calls l.call-index l.answers.items l.fn.bases l.bases
