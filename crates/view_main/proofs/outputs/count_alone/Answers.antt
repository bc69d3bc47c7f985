use Rattle.std.proofs.Common.{refl}
use Rattle.std.proofs.lemmas.Result.{IfOk-weaker}
use Rattle.view_stat.specs.Comparing.{IsAloneTold}
use Rattle.view_main.specs.Outputs.{scripted, unscripted}
use Rattle.view_main.proofs.outputs.count_alone.Goals as goal

pub returns-in-Ok : goal.returns-in-Ok
returns-in-Ok c =
    IfOk-weaker c.count_script_alone.result
    (λ o. IsAloneTold c.in-Ok.script o.text.items o.status) _
    (λ o told. scripted c.in-Ok.script c.in-Ok.ensures.spelled told)
    c.count_script_alone.ensures

pub returns-in_ok-script_refused-in-Err-Refused :
    goal.returns-in_ok-script_refused-in-Err-Refused
returns-in_ok-script_refused-in-Err-Refused c =
    unscripted c.in-Err-Refused.fault
    (rw c.in-Err-Refused.field-0-is at c.in-Err-Refused.ensures.refused).0
    c.in_ok-script_refused-in-Err-Refused.ensures refl
