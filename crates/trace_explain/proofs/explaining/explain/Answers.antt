use Rattle.std.proofs.Common.{subst}
use Rattle.std.proofs.lemmas.Result.{IfOk-weaker}
use Rattle.trace_check.specs.Answers.{start_for}
use Rattle.trace_explain.specs.Explained.{IsExplained}
use Rattle.trace_explain.proofs.TellLaws.{told_verdict}
use Rattle.trace_explain.proofs.explaining.explain.Goals as goal

pub returns-clause-verdict : goal.returns-clause-verdict
returns-clause-verdict c =
    let t = c.args.trace.now in
    IfOk-weaker c.tell_lines.result
    (λ e. IsExplained c.in_ok-core.core 0 c.as_slice.result.now e.verdict e.text.items) _
    (λ e told. told_verdict (start_for t) t.lines e.verdict e.text.items
    (subst (λ w. IsExplained w 0 t.lines e.verdict e.text.items) c.in_ok-core.ensures
    (subst (λ ls. IsExplained c.in_ok-core.core 0 ls e.verdict e.text.items) c.as_slice.ensures
    told)))
    c.tell_lines.ensures
