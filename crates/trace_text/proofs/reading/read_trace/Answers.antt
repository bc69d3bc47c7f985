use Rattle.std.proofs.Common.{ap, not, sym, ◌∙◌}
use Rattle.std.proofs.lemmas.Bool.{not-false, not-true}
use Rattle.std.specs.Str.{bytes_eq}
use Rattle.trace_text.proofs.TraceLaws.{only_one, refused_behind, refused_first, spelled_by, trace_first}
use Rattle.trace_text.proofs.reading.read_trace.Goals as goal

pub returns-then-ne-clause-refused : goal.returns-then-ne-clause-refused
returns-then-ne-clause-refused c =
    rw c.refused.ensures (refused_first c.law_faults.ensures c.args.bytes.now c.in-Some.first.now c.in-Some.behind.now c.in-Some.ensures.found
    (not-true _ (ap (λ x. not (bytes_eq c.in-Some.first.now x)) (sym c.as_slice.ensures) ∙ (sym c.ne.ensures ∙ c.if-ne.true))))

pub returns-in-Ok-clause-spelled : goal.returns-in-Ok-clause-spelled
returns-in-Ok-clause-spelled c =
    spelled_by c.args.bytes.now c.in-Some.first.now c.in-Some.behind.now c.in-Ok.trace c.in-Some.ensures.found
    (trace_first c.in-Some.first.now (not-false _ (ap (λ x. not (bytes_eq c.in-Some.first.now x)) (sym c.as_slice.ensures) ∙ (sym c.ne.ensures ∙ c.if-ne.false)))) c.in-Ok.ensures.ok

pub returns-in-Ok-clause-only : goal.returns-in-Ok-clause-only
returns-in-Ok-clause-only c =
    only_one c.args.bytes.now c.in-Some.first.now c.in-Some.behind.now c.in-Ok.trace c.in-Some.ensures.found c.in-Ok.ensures.ok

pub returns-in-Err-clause-refused : goal.returns-in-Err-clause-refused
returns-in-Err-clause-refused c =
    refused_behind c.law_faults.ensures c.args.bytes.now c.in-Some.first.now c.in-Some.behind.now c.in-Some.ensures.found
    (not-false _ (ap (λ x. not (bytes_eq c.in-Some.first.now x)) (sym c.as_slice.ensures) ∙ (sym c.ne.ensures ∙ c.if-ne.false))) c.in-Err.fault c.in-Err.ensures.err
