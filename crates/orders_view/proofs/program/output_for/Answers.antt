use Rattle.std.proofs.Common.{subst}
use Rattle.std.proofs.lemmas.Result.{IfOk-weaker}
use Rattle.orders_view.specs.Ends.{answered}
use Rattle.orders_view.specs.Outputs.{IsTelling}
use Rattle.orders_view.proofs.program.output_for.Goals as goal

pub returns-in-Ok : goal.returns-in-Ok
returns-in-Ok g c =
    IfOk-weaker c.tell.result
    (λ o. IsTelling c.args.asked c.deref.result.now o.text.items o.status) _
    (λ o told. answered c.in-Ok.bytes.items c.in-Ok.ensures.ok
    (subst (λ bytes. IsTelling c.args.asked bytes o.text.items o.status)
    c.deref.ensures.value told))
    c.tell.ensures
