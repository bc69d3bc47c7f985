use Rattle.std.proofs.lemmas.Result.{IfOk-weaker}
use Rattle.view_stat.specs.Comparing.{IsPairTold}
use Rattle.view_main.specs.Pairs.{IsRefused, second_refused, second_spelled}
use Rattle.view_main.specs.declared.pairs.Which.TheVariants as which
use Rattle.view_main.proofs.pairs.count_second.Goals as goal

pub returns-in-Ok : goal.returns-in-Ok
returns-in-Ok c =
    IfOk-weaker c.count_scripts.result
    (λ o. IsPairTold c.args.one.now c.in-Ok.two o.text.items o.status) _
    (λ o told. second_spelled c.in-Ok.two c.in-Ok.ensures.spelled told)
    c.count_scripts.ensures

pub returns-in-Err-Refused : goal.returns-in-Err-Refused
returns-in-Err-Refused c =
    IfOk-weaker c.refused.result
    (λ o. IsRefused which.Second c.args.bytes.now o.text.items o.status) _
    (λ o told. second_refused told) c.refused.ensures

pub refused-requires : goal.refused-requires
refused-requires c = (rw c.in-Err-Refused.field-0-is at c.in-Err-Refused.ensures.refused).0
