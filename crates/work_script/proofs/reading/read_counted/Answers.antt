use Rattle.std.proofs.Common.{ap, subst, sym, ◌∙◌}
use Rattle.text_words.specs.Words.{lines_of}
use Rattle.work_script.specs.Steps.{Gives}
use Rattle.work_script.proofs.ScriptLaws.{counted_step}
use Rattle.work_script.specs.Faults.{go_on_counted}
use Rattle.work_script.proofs.reading.read_counted.Goals as goal

pub returns-in-Ok : goal.returns-in-Ok
returns-in-Ok c =
    subst (Gives c.read_body.result)
    (ap (λ r. go_on_counted r (lines_of c.in-Some.behind.now)) c.in-Ok.ensures ∙ sym (counted_step c.args.bytes.now c.in-Some.line.now c.in-Some.behind.now c.in-Some.ensures.found))
    c.read_body.ensures

pub returns-in-Err : goal.returns-in-Err
returns-in-Err c =
    rw c.refused.ensures
    (counted_step c.args.bytes.now c.in-Some.line.now c.in-Some.behind.now c.in-Some.ensures.found
    ∙ sym (ap (λ r. go_on_counted r (lines_of c.in-Some.behind.now)) c.in-Err.ensures))
