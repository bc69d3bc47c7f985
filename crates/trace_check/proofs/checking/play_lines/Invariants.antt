use Rattle.trace_check.proofs.PlayLaws.{IsUnderWay}
use Rattle.trace_check.proofs.checking.play_lines.Given as goal

abbrev pub invariant-loop-line : goal.invariant-loop-line
invariant-loop-line g l =
    IsUnderWay l.fn.core l.lines l.fn.out l.line-index l.core l.made l.out
