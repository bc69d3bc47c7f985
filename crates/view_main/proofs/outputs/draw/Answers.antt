use Rattle.std.proofs.Common.{refl, subst}
use Rattle.std.proofs.lemmas.Result.{IfOk-weaker}
use Rattle.view_main.specs.Outputs.{IsDrawn, read, refused}
use Rattle.view_main.proofs.outputs.draw.Goals as goal

pub returns-in-Ok : goal.returns-in-Ok
returns-in-Ok c =
    IfOk-weaker c.draw_lines.result
    (λ o. IsDrawn c.args.look c.deref.result.now o.text.items o.status) _
    (λ o drawn. read c.in-Ok.lines.items c.in-Ok.ensures.lines
    (subst (λ ls. IsDrawn c.args.look ls o.text.items o.status) c.deref.ensures.value drawn))
    c.draw_lines.ensures

pub returns-in_ok-report_refused-in-Err-Refused :
    goal.returns-in_ok-report_refused-in-Err-Refused
returns-in_ok-report_refused-in-Err-Refused c =
    refused c.in-Err-Refused.fault
    (rw c.in-Err-Refused.field-0-is at c.in-Err-Refused.ensures.refused).0
    (rw c.in-Err-Refused.field-0-is at c.in_ok-report_refused-in-Err-Refused.ensures) refl
