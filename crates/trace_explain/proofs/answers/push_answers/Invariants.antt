use Rattle.trace_explain.specs.Telling.{AddsAnswers}
use Rattle.trace_explain.proofs.answers.push_answers.Given as goal

abbrev pub invariant-loop-timer : goal.invariant-loop-timer
invariant-loop-timer g l =
    AddsAnswers l.core l.timer l.fn.text.items l.text.items
