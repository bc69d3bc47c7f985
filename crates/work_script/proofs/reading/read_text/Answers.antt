use Rattle.std.proofs.Common.{ap, not, subst, sym, ◌∙◌}
use Rattle.std.proofs.lemmas.Bool.{not-false, not-true}
use Rattle.std.specs.Str.{bytes_eq}
use Rattle.work_script.specs.Steps.{Gives}
use Rattle.work_script.proofs.ScriptLaws.{said_other, said_step}
use Rattle.work_script.proofs.reading.read_text.Goals as goal

pub returns-then-ne : goal.returns-then-ne
returns-then-ne c =
    rw c.refused.ensures
    (said_other c.args.bytes.now c.in-Some.first.now c.in-Some.behind.now c.in-Some.ensures.found
    (not-true _ (ap (λ x. not (bytes_eq c.in-Some.first.now x)) (sym c.as_slice.ensures) ∙ (sym c.ne.ensures ∙ c.if-ne.true))))

pub returns : goal.returns
returns c =
    subst (Gives c.read_counted.result)
    (sym (said_step c.args.bytes.now c.in-Some.first.now c.in-Some.behind.now c.in-Some.ensures.found
    (not-false _ (ap (λ x. not (bytes_eq c.in-Some.first.now x)) (sym c.as_slice.ensures) ∙ (sym c.ne.ensures ∙ c.if-ne.false)))))
    c.read_counted.ensures
