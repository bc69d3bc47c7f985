use Rattle.std.proofs.Common.{subst}
use Rattle.std.proofs.lemmas.Result.{IfOk-weaker}
use Rattle.view_main.specs.Pairs.{IsPairCounting, second_read}
use Rattle.view_main.proofs.pairs.second_output.Goals as goal

pub returns-in-Ok : goal.returns-in-Ok
returns-in-Ok g c =
    IfOk-weaker c.count_pair.result
    (λ o. IsPairCounting c.args.ones.now c.deref.result.now o.text.items o.status) _
    (λ o counted. second_read c.in-Ok.twos.items c.in-Ok.ensures.ok
    (subst (λ twos. IsPairCounting c.args.ones.now twos o.text.items o.status)
    c.deref.ensures.value counted))
    c.count_pair.ensures
