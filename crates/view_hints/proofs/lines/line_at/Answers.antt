use Rattle.std.proofs.Common.{◌≡◌, sym, ◌∙◌, arith}
use Rattle.text_words.specs.Words.{lines_of}
use Rattle.view_hints.proofs.Numbered.{line_behind, line_there, none_behind}
use Rattle.view_hints.proofs.lines.line_at.Goals as goal

pub returns-in-None : goal.returns-in-None
returns-in-None c =
    none_behind (lines_of c.args.bytes.now) c.loop-before._before c.args.number
    c.loop-before.rest.now (sym c.in-None.ensures.none ∙ c.loop-before.invariant.rest)
    c.loop-before-test.true

pub loop-before-preserved : goal.loop-before-preserved
loop-before-preserved c = record {
  rest =
      line_behind (lines_of c.args.bytes.now) c.loop-before._before c.in-Some._line.now
      (lines_of c.in-Some.behind.now)
      (sym c.in-Some.ensures.found ∙ c.loop-before.invariant.rest);
}

pub returns : goal.returns
returns c =
    let end = c.loop-before-test.false in
    let most = c.loop-before.auto._before-end in
    let same : c.loop-before._before ≡ c.args.number = omega (arith, end, most) in
    line_there (lines_of c.args.bytes.now) (lines_of c.loop-before.rest.now)
    c.loop-before._before c.args.number c.front.result.now c.front.ensures
    c.loop-before.invariant.rest same
