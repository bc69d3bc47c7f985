use Rattle.std.proofs.lemmas.Result.{IfOk-weaker}
use Rattle.view_main.specs.Pairs.{IsRefused, IsSecondCounting, first_refused, first_spelled}
use Rattle.view_main.specs.declared.pairs.Which.TheVariants as which
use Rattle.view_main.proofs.pairs.count_pair.Goals as goal

pub returns-in-Ok : goal.returns-in-Ok
returns-in-Ok c =
    IfOk-weaker c.count_second.result
    (λ o. IsSecondCounting c.in-Ok.one c.args.twos.now o.text.items o.status) _
    (λ o told. first_spelled c.in-Ok.one c.in-Ok.ensures.spelled told)
    c.count_second.ensures

pub returns-in-Err-Refused : goal.returns-in-Err-Refused
returns-in-Err-Refused c =
    IfOk-weaker c.refused.result
    (λ o. IsRefused which.First c.args.ones.now o.text.items o.status) _
    (λ o told. first_refused told) c.refused.ensures

pub refused-requires : goal.refused-requires
refused-requires c = (rw c.in-Err-Refused.field-0-is at c.in-Err-Refused.ensures.refused).0
