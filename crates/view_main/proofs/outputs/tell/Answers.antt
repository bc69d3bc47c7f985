use Rattle.std.proofs.Common.{refl}
use Rattle.std.proofs.lemmas.Result.{IfOk-weaker}
use Rattle.view_main.specs.Outputs.{IsTold, spelled, unread}
use Rattle.view_main.proofs.outputs.tell.Goals as goal

pub returns-in-Ok : goal.returns-in-Ok
returns-in-Ok c =
    IfOk-weaker c.tell_trace.result (λ o. IsTold c.in-Ok.trace o.text.items o.status) _
    (λ o told. spelled c.in-Ok.trace c.in-Ok.ensures.spelled told)
    c.tell_trace.ensures

pub returns-in_ok-steps_refused-in-Err-Refused :
    goal.returns-in_ok-steps_refused-in-Err-Refused
returns-in_ok-steps_refused-in-Err-Refused c =
    unread c.in-Err-Refused.fault
    (rw c.in-Err-Refused.field-0-is at c.in-Err-Refused.ensures.refused).0
    c.in_ok-steps_refused-in-Err-Refused.ensures refl
