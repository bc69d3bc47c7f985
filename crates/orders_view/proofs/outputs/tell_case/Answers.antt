use Rattle.std.proofs.lemmas.Result.{IfOk-weaker}
use Rattle.orders_view.specs.Outputs.{IsAttemptTold, tried}
use Rattle.orders_view.proofs.outputs.tell_case.Goals as goal

pub returns-in-Ok : goal.returns-in-Ok
returns-in-Ok c =
    IfOk-weaker c.tell_attempt.result
    (λ o. IsAttemptTold c.args.asked c.args.case.now c.in-Ok.attempt o.text.items o.status) _
    (λ o told. tried c.in-Ok.attempt c.in-Ok.ensures told)
    c.tell_attempt.ensures
