use Rattle.base_calls.proofs.WheelRuns.{RanSoFar}
use Rattle.base_calls.proofs.wheel.make_calls.Given as goal

abbrev pub invariant-loop-call : goal.invariant-loop-call
invariant-loop-call g l =
    RanSoFar l.calls l.call-index l.answers.items (g.B.TimerBase.base l.fn.base)
    (g.B.TimerBase.base l.base)
