use Rattle.std.proofs.Common.{sym, ap, subst, ◌∙◌}
use Rattle.text_words.specs.Words.{lines_of}
use Rattle.tm_script.specs.declared.draft.Draft.{Draft}
use Rattle.tm_script.specs.Reading.{read_from}
use Rattle.tm_script.proofs.KnownLaws.{IsKnown, known_behind, line_read, line_refused, lines_end}
use Rattle.tm_script.proofs.reading.read_lines.Goals as goal

pub returns-in-Err : goal.returns-in-Err
returns-in-Err c =
    rw c.refused.ensures
    (line_refused c.loop-line.rest.now c.in-Some.line.now c.in-Some.after.now c.loop-line.draft c.in-Err.kind _ c.in-Some.ensures.found c.in-Err.ensures c.loop-line.invariant.same)

pub loop-line-preserved : goal.loop-line-preserved
loop-line-preserved c =
    let is = c.in_ok-take-in-Ok.ensures in
    record {
      same =
          ap (λ (d : Draft). read_from (lines_of c.in-Some.after.now) d) is
          ∙ line_read c.loop-line.rest.now c.in-Some.line.now c.in-Some.after.now c.loop-line.draft c.in-Ok.said _ c.in-Some.ensures.found c.in-Ok.ensures c.loop-line.invariant.same;
      known = subst (λ (d : Draft). IsKnown d.known) (sym is) (known_behind c.loop-line.draft c.in-Some.line.now c.in-Ok.said c.loop-line.invariant.known c.in-Ok.ensures);
    }

pub returns : goal.returns
returns c = rw (lines_end c.loop-line.rest.now c.loop-line.draft _ c.in_default.ensures.none c.loop-line.invariant.same) c.finish.ensures
