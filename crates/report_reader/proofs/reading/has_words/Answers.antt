use Rattle.std.proofs.Common.{◌≡◌, ℕ, ◌-◌, List, [], ◌∷◌, ◌++◌, length, take, ap, ◌∙◌, arith}
use Rattle.std.specs.Str.{bytes_eq}
use Rattle.std.proofs.lemmas.List.{length-append}
use Rattle.tm_report.specs.Lines.{words_text, line_text}
use Rattle.report_reader.proofs.LineLaws.{without_last}
use Rattle.report_reader.proofs.reading.has_words.Goals as goal

pub slice_bounds-eq-count : goal.slice_bounds-eq-count
unfolding line_text
slice_bounds-eq-count c =
    let is : c.text-text.result.now ≡ words_text c.args.line.now ++ 10 ∷ [] =
    c.text-text.ensures ∙ c.in_ok-push.ensures.ok ∙ ap (λ (t : List ℕ). t ++ line_text c.args.line.now) c.truncate.ensures in
    rw is (omega (arith, length-append (words_text c.args.line.now) (10 ∷ [])))

pub returns : goal.returns
unfolding line_text
returns c =
    let is : c.text-text.result.now ≡ words_text c.args.line.now ++ 10 ∷ [] =
    c.text-text.ensures ∙ c.in_ok-push.ensures.ok ∙ ap (λ (t : List ℕ). t ++ line_text c.args.line.now) c.truncate.ensures in
    c.eq.ensures ∙ ap (λ (t : List ℕ). bytes_eq c.args.words.now (take (length t - 1) t)) is
    ∙ ap (bytes_eq c.args.words.now) (without_last (words_text c.args.line.now))
