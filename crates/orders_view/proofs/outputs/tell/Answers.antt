use Rattle.std.proofs.Common.{refl, ap, ◌∙◌}
use Rattle.std.proofs.lemmas.Result.{IfOk-weaker}
use Rattle.orders_view.specs.Outputs.{IsCaseTold, refused, spelled}
use Rattle.orders_view.specs.Texts.{case_text}
use Rattle.orders_view.proofs.outputs.tell.Goals as goal

pub returns-in-Ok : goal.returns-in-Ok
returns-in-Ok c =
    IfOk-weaker c.tell_case.result
    (λ o. IsCaseTold c.args.asked c.in-Ok.case o.text.items o.status) _
    (λ o told. spelled c.in-Ok.case c.in-Ok.ensures.spelled told)
    c.tell_case.ensures

pub returns-in_ok-case_refused-in-Err-Refused : goal.returns-in_ok-case_refused-in-Err-Refused
returns-in_ok-case_refused-in-Err-Refused c =
    refused c.in-Err-Refused.fault
    (rw c.in-Err-Refused.field-0-is at c.in-Err-Refused.ensures.refused).0
    (c.in_ok-case_refused-in-Err-Refused.ensures ∙ ap case_text c.in-Err-Refused.fault-is)
    refl
