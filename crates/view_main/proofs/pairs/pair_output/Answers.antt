use Rattle.std.proofs.Common.{subst}
use Rattle.std.proofs.lemmas.Result.{IfOk-weaker}
use Rattle.view_main.specs.Pairs.{IsSecondOutput, first_read}
use Rattle.view_main.proofs.pairs.pair_output.Goals as goal

pub returns-in-Ok : goal.returns-in-Ok
returns-in-Ok g c =
    IfOk-weaker c.second_output.result
    (λ o. IsSecondOutput c.deref.result.now (g.T.Source.seen c.args.second.now)
    (g.T.Source.seen c.second_output.new.second) o.text.items o.status) _
    (λ o counted. first_read c.in-Ok.ones.items c.in-Ok.ensures.ok
    (subst (λ ones. IsSecondOutput ones (g.T.Source.seen c.args.second.now)
    (g.T.Source.seen c.second_output.new.second) o.text.items o.status)
    c.deref.ensures.value counted))
    c.second_output.ensures
