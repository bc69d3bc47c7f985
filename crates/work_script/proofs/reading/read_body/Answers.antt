use Rattle.std.proofs.Common.{subst, sym}
use Rattle.text_words.specs.Words.{words_of}
use Rattle.work_script.specs.Steps.{Gives}
use Rattle.work_script.proofs.DraftLaws.{IsKnown, ending_read, known_opening, known_operation, line_refused, lines_end, opening_read, operation_read}
use Rattle.work_script.proofs.reading.read_body.Goals as goal

pub returns-in-Ok-Ending : goal.returns-in-Ok-Ending
returns-in-Ok-Ending c =
    subst (Gives c.close.result)
    (ending_read c.loop-line.rest.now c.in-Some.line.now c.in-Some.after.now c.loop-line.draft _ c.in-Some.ensures.found c.loop-line.invariant.same c.in-Ok-Ending.end
    (rw c.in-Ok-Ending.field-0-is at c.in-Ok-Ending.ensures))
    c.close.ensures

pub returns-in-Err : goal.returns-in-Err
returns-in-Err c =
    rw c.refused.ensures
    (line_refused c.loop-line.rest.now c.in-Some.line.now c.in-Some.after.now c.loop-line.draft _ c.in-Some.ensures.found c.loop-line.invariant.same c.in-Err.kind c.in-Err.ensures)

pub loop-line-preserved-in_ok-open-in-Ok-Opening :
    goal.loop-line-preserved-in_ok-open-in-Ok-Opening
loop-line-preserved-in_ok-open-in-Ok-Opening c =
    let heard = rw c.in-Ok-Opening.field-0-is at c.in-Ok-Opening.ensures in
    let is = c.in_ok-open-in-Ok-Opening.ensures in
    record {
      same = opening_read c.loop-line.rest.now c.in-Some.line.now c.in-Some.after.now c.loop-line.draft _ c.in-Some.ensures.found c.loop-line.invariant.same c.in-Ok-Opening.at _ is heard;
      known = subst (λ d. IsKnown d.known) (sym is) (known_opening c.loop-line.draft.known (words_of c.in-Some.line.now) c.in-Ok-Opening.at (sym heard));
    }

pub loop-line-preserved : goal.loop-line-preserved
loop-line-preserved c =
    let heard = rw c.in-Ok-Operation.field-0-is at c.in-Ok-Operation.ensures in
    let is = c.in_ok-add-in-Ok-Operation.ensures in
    record {
      same = operation_read c.loop-line.rest.now c.in-Some.line.now c.in-Some.after.now c.loop-line.draft _ c.in-Some.ensures.found c.loop-line.invariant.same c.in-Ok-Operation.op _ is heard;
      known = subst (λ d. IsKnown d.known) (sym is) (known_operation c.loop-line.draft.known (words_of c.in-Some.line.now) c.in-Ok-Operation.op (sym heard));
    }

pub returns : goal.returns
returns c =
    rw c.unended.ensures
    (lines_end c.loop-line.rest.now c.loop-line.draft _ c.in_default.ensures.none c.loop-line.invariant.same)
