use Rattle.std.proofs.Common.{◌-◌, drop, length, refl, subst, take}
use Rattle.std.proofs.lemmas.Result.{IfOk-weaker}
use Rattle.view_story.specs.Ends.{IsReportJudged, behind, no_script}
use Rattle.view_story.proofs.Beginnings.{rest_whole}
use Rattle.view_story.proofs.program.judge_bytes.Goals as goal

pub returns-in-Ok : goal.returns-in-Ok
returns-in-Ok c =
    IfOk-weaker c.judge_report.result
    (λ o. IsReportJudged c.in-Ok.script c.args.play
    (take (length c.args.bytes.now - c.script_size-size.result)
    (drop c.script_size-size.result c.args.bytes.now)) o.text.items o.status) _
    (λ o judged. behind c.script_size-size.result c.in-Ok.script c.in-Ok.ensures.spelled
    (subst (λ ls. IsReportJudged c.in-Ok.script c.args.play ls o.text.items o.status)
    (rest_whole c.script_size-size.result c.args.bytes.now) judged))
    c.judge_report.ensures

pub returns-in_ok-script_refused-in-Err-Refused :
    goal.returns-in_ok-script_refused-in-Err-Refused
returns-in_ok-script_refused-in-Err-Refused c =
    no_script c.script_size-size.result c.in-Err-Refused.fault
    (rw c.in-Err-Refused.field-0-is at c.in-Err-Refused.ensures.refused).0
    c.in_ok-script_refused-in-Err-Refused.ensures refl
