use Rattle.std.proofs.Common.{refl, subst}
use Rattle.std.proofs.lemmas.Result.{IfOk-weaker}
use Rattle.view_story.specs.Ends.{IsTold, judged_as, no_report}
use Rattle.view_story.proofs.program.judge_report.Goals as goal

pub returns-in-Ok : goal.returns-in-Ok
returns-in-Ok c =
    IfOk-weaker c.tell.result
    (λ o. IsTold c.args.script.now c.args.play c.deref.result.now o.text.items o.status) _
    (λ o told. judged_as c.in-Ok.lines.items c.in-Ok.ensures.lines
    (subst (λ ls. IsTold c.args.script.now c.args.play ls o.text.items o.status)
    c.deref.ensures.value told))
    c.tell.ensures

pub returns-in_ok-report_refused-in-Err-Refused :
    goal.returns-in_ok-report_refused-in-Err-Refused
returns-in_ok-report_refused-in-Err-Refused c =
    no_report c.in-Err-Refused.fault
    (rw c.in-Err-Refused.field-0-is at c.in-Err-Refused.ensures.refused).0
    c.in_ok-report_refused-in-Err-Refused.ensures refl
