-- for crates above: the text of a report that is made of parts
use Rattle.std.proofs.Common.{◌≡◌, List, [], ◌∷◌, ◌++◌, ap, ◌∙◌}
use Rattle.std.proofs.lemmas.List.{append-nil}
use Rattle.std.proofs.lemmas.List.Concat.{flat_map-append}
use Rattle.tm_report.specs.declared.lines.Line.{Line}
use Rattle.tm_report.specs.Lines.{line_text, report_text}

-- the texts of two parts, one after the other
pub report_text-append : (xs ys : List Line)
    → report_text (xs ++ ys) ≡ report_text xs ++ report_text ys
report_text-append xs ys = flat_map-append line_text xs ys

-- one more line
pub report_text-push : (lines : List Line) (line : Line)
    → report_text (lines ++ line ∷ []) ≡ report_text lines ++ line_text line
report_text-push lines line =
    report_text-append lines (line ∷ [])
    ∙ ap (λ t. report_text lines ++ t) (append-nil (line_text line))
