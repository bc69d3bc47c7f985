use Rattle.std.proofs.Common.{refl}
use Rattle.std.proofs.lemmas.Result.{IfOk-weaker}
use Rattle.view_stat.specs.Telling.{IsTold as IsStatTold}
use Rattle.view_main.specs.Outputs.{scripted, unscripted}
use Rattle.view_main.proofs.outputs.count.Goals as goal

pub returns-in-Ok : goal.returns-in-Ok
returns-in-Ok c =
    IfOk-weaker c.count_script.result
    (λ o. IsStatTold c.args.form c.in-Ok.script o.text.items o.status) _
    (λ o told. scripted c.in-Ok.script c.in-Ok.ensures.spelled told)
    c.count_script.ensures

pub returns-in_ok-script_refused-in-Err-Refused :
    goal.returns-in_ok-script_refused-in-Err-Refused
returns-in_ok-script_refused-in-Err-Refused c =
    unscripted c.in-Err-Refused.fault
    (rw c.in-Err-Refused.field-0-is at c.in-Err-Refused.ensures.refused).0
    (rw c.in-Err-Refused.field-0-is at c.in_ok-script_refused-in-Err-Refused.ensures) refl
