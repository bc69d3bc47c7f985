use Rattle.std.proofs.lemmas.Result.{IfOk-weaker}
use Rattle.orders_view.specs.Outputs.{IsOrderTold, showing}
use Rattle.orders_view.proofs.outputs.tell_one.Goals as goal

pub returns-in-Ok : goal.returns-in-Ok
returns-in-Ok c =
    IfOk-weaker c.tell_shown.result
    (λ o. IsOrderTold c.args.ends.now c.args.number c.in-Ok.shown o.text.items o.status) _
    (λ o told. showing c.in-Ok.shown c.in-Ok.ensures told)
    c.tell_shown.ensures
