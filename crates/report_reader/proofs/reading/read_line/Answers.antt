use Rattle.std.proofs.Common.{sym, ap, subst, ◌∙◌}
use Rattle.std.specs.Str.{bytes_eq}
use Rattle.tm_report.specs.Lines.{words_text}
use Rattle.tm_report.specs.declared.lines.Line.{Line}
use Rattle.report_reader.specs.Names.{line_name_of}
use Rattle.report_reader.specs.Candidates.{later_of, line_for}
use Rattle.report_reader.specs.Names.{head_word}
use Rattle.report_reader.specs.Reading.{IsLineOf}
use Rattle.report_reader.proofs.LineLaws.{unnamed, is_line, no_line}
use Rattle.report_reader.proofs.reading.read_line.Goals as goal

pub returns-in_default : goal.returns-in_default
returns-in_default c =
    unnamed c.args.words.now (sym (c.name_of.ensures ∙ ap line_name_of (c.word.ensures.word ∙ ap head_word c.of-left.ensures)) ∙ c.in_default.is)

pub returns-then-branch : goal.returns-then-branch
returns-then-branch c =
    let found = sym (c.name_of.ensures ∙ ap line_name_of (c.word.ensures.word ∙ ap head_word c.of-left.ensures)) ∙ c.in-Some.is in
    let is = c.line_of-line.ensures ∙ ap (line_for c.in-Some.name) (c.word.ensures.later ∙ ap later_of c.of-left.ensures) in
    let same = ap (λ (l : Line). bytes_eq c.args.words.now (words_text l)) (sym is) ∙ sym c.in_ok-has_words.ensures ∙ c.if-branch.true in
    subst (IsLineOf c.args.words.now) (sym is) (is_line c.args.words.now c.in-Some.name found same)

pub returns-else-branch : goal.returns-else-branch
returns-else-branch c =
    let found = sym (c.name_of.ensures ∙ ap line_name_of (c.word.ensures.word ∙ ap head_word c.of-left.ensures)) ∙ c.in-Some.is in
    let is = c.line_of-line.ensures ∙ ap (line_for c.in-Some.name) (c.word.ensures.later ∙ ap later_of c.of-left.ensures) in
    let other = ap (λ (l : Line). bytes_eq c.args.words.now (words_text l)) (sym is) ∙ sym c.in_ok-has_words.ensures ∙ c.if-branch.false in
    no_line c.args.words.now c.in-Some.name found other
