use Rattle.trace_explain.proofs.TellLaws.{IsUnderWay}
use Rattle.trace_explain.proofs.explaining.tell_lines.Given as goal

abbrev pub invariant-loop-line : goal.invariant-loop-line
invariant-loop-line g l =
    IsUnderWay l.fn.core l.lines l.line-index l.core l.made l.text.items
