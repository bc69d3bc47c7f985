use Rattle.std.proofs.Common.{◌+◌, ap, arith, subst, sym, ◌∙◌}
use Rattle.text_words.specs.Words.{lines_of, words_of}
use Rattle.trace_text.specs.Reading.{lines_from}
use Rattle.trace_text.specs.Steps.{Gives, with_front}
use Rattle.trace_text.proofs.BodyLaws.{last_read, line_read, line_refused, lines_end}
use Rattle.trace_text.proofs.LineLaws.{line_found}
use Rattle.trace_text.proofs.reading.read_lines.Goals as goal

pub returns-in-Ok-None : goal.returns-in-Ok-None
returns-in-Ok-None c =
    subst (Gives c.close.result)
    (last_read c.args.limits c.loop-words.line c.loop-words.rest.now c.in-Some.words.now c.in-Some.after.now c.loop-words.lines _ c.in-Some.ensures.found c.loop-words.invariant.same
    (rw c.in-Ok-None.field-0-is at c.in-Ok-None.ensures))
    c.close.ensures

pub returns-in-Err : goal.returns-in-Err
returns-in-Err c =
    rw c.refused.ensures
    (line_refused c.args.limits c.loop-words.line c.loop-words.rest.now c.in-Some.words.now c.in-Some.after.now c.loop-words.lines _ c.in-Some.ensures.found c.loop-words.invariant.same c.in-Err.kind c.in-Err.ensures)

pub loop-words-preserved : goal.loop-words-preserved
loop-words-preserved c =
    let heard = rw c.in-Ok-Some.field-0-is at c.in-Ok-Some.ensures in
    let room = (line_found c.args.limits c.loop-words.line (words_of c.in-Some.words.now) c.in-Ok-Some.said (sym heard)).2 in
    record {
      same =
          ap (λ ls. with_front ls (lines_from c.args.limits (c.loop-words.line + 1) (lines_of c.in-Some.after.now))) c.in_ok-push-in-Ok-Some.ensures.ok
          ∙ line_read c.args.limits c.loop-words.line c.loop-words.rest.now c.in-Some.words.now c.in-Some.after.now c.loop-words.lines _ c.in-Some.ensures.found c.loop-words.invariant.same c.in-Ok-Some.said heard;
      room = omega (arith, room);
    }

pub returns : goal.returns
returns c =
    rw c.unended.ensures
    (lines_end c.args.limits c.loop-words.line c.loop-words.rest.now c.loop-words.lines _ c.in_default.ensures.none c.loop-words.invariant.same)
