use Rattle.std.proofs.Common.{◌∙◌, sym, arith}
use Rattle.text_words.specs.Words.{lines_of}
use Rattle.linux_shown.proofs.Lines.{missed_here, missed_last, none_passed, passed}
use Rattle.linux_shown.proofs.before.pass_lines.Goals as goal

pub returns-in_default-clause-missed : goal.returns-in_default-clause-missed
returns-in_default-clause-missed c is =
    sym c.loop-left.invariant
    ∙ missed_last c.loop-left.left c.loop-left.course c.loop-left.rest.now
    (omega (arith, c.loop-left-test.true)) c.in_default.ensures.none

pub returns-then-is_some-clause-missed : goal.returns-then-is_some-clause-missed
returns-then-is_some-clause-missed c is =
    sym c.loop-left.invariant
    ∙ missed_here c.loop-left.left c.loop-left.course c.in-Some.text.now c.loop-left.rest.now
    c.in-Some.after.now c.in_ok-take_text.field-0 (omega (arith, c.loop-left-test.true))
    c.in-Some.ensures.found c.in_ok-take_text.ensures.verdict
    (sym c.is_some.ensures ∙ c.if-is_some.true)

pub loop-left-preserved : goal.loop-left-preserved
loop-left-preserved c =
    sym
    (passed c.loop-left.left c.loop-left.course c.take_text.new.course c.in-Some.text.now
    c.loop-left.rest.now c.in-Some.after.now c.in_ok-take_text.field-0
    (omega (arith, c.loop-left-test.true)) c.in-Some.ensures.found
    c.in_ok-take_text.ensures.verdict (sym c.is_some.ensures ∙ c.if-is_some.false)
    c.in_ok-take_text.ensures.after)
    ∙ c.loop-left.invariant

pub returns-clause-reached : goal.returns-clause-reached
returns-clause-reached c is =
    sym c.loop-left.invariant
    ∙ none_passed c.loop-left.left c.loop-left.course (lines_of c.loop-left.rest.now)
    (omega (arith, c.loop-left-test.false))
