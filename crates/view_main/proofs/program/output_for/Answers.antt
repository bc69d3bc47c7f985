use Rattle.std.proofs.Common.{subst}
use Rattle.std.proofs.lemmas.Result.{IfOk-weaker}
use Rattle.view_main.specs.Ends.{IsAnswer, answered}
use Rattle.view_main.proofs.program.output_for.Goals as goal

pub returns-in-Ok : goal.returns-in-Ok
returns-in-Ok g c =
    IfOk-weaker c.answer.result
    (λ o. IsAnswer c.args.command c.deref.result.now o.text.items o.status) _
    (λ o answer. answered c.in-Ok.bytes.items c.in-Ok.ensures.ok
    (subst (λ bytes. IsAnswer c.args.command bytes o.text.items o.status)
    c.deref.ensures.value answer))
    c.answer.ensures
