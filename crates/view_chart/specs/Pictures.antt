-- the whole picture of a chart, as SVG
use Rattle.std.specs.Prelude.{ℕ, ◌+◌, ◌*◌, Bool, List, ◌++◌, codes, max}
use Rattle.std.specs.List.{flat_map}
use Rattle.view_chart.specs.declared.drawing.TheConstants.{LEGEND, ROW}
use Rattle.view_chart.specs.declared.marks.Fold.{Fold}
use Rattle.view_chart.specs.declared.model.Arrow.{Arrow}
use Rattle.view_chart.specs.declared.model.Note.{Note}
use Rattle.view_chart.specs.declared.model.Point.{Point}
use Rattle.view_chart.specs.declared.model.Span.{Span}
use Rattle.view_chart.specs.declared.model.Window.{Window}
use Rattle.view_chart.specs.Drawing.{arrow_text, fold_text, labels_below, legend_text}
use Rattle.view_chart.specs.Drawing.{span_text, tick_text}
use Rattle.view_chart.specs.Heading.{size_text, title_text}
use Rattle.view_chart.specs.Notes.{notes_text}

-- bars, arrows, and notes, if these are chosen
unfoldable pub body_text : Window → (spans : List Span) → (arrows : List Arrow) →
    (covers : Bool) → (notes : List Note) → List ℕ
body_text w spans arrows covers notes =
    flat_map (span_text w) spans
    ++ (flat_map (arrow_text w) arrows ++ notes_text w covers notes)

-- THE PICTURE of a chart: its size with the margins, its title, the labels of its rows, what is
-- written above them, what the marks mean, and then bars, arrows and notes, if these are chosen
unfoldable pub picture_text : Window → (columns rows : ℕ) → (ticks : List Point) →
    (folds : List Fold) → (spans : List Span) → (arrows : List Arrow) → (covers : Bool) →
    (notes : List Note) → List ℕ
picture_text w columns rows ticks folds spans arrows covers notes =
    size_text (max columns LEGEND + 14) (ROW * rows + 9)
    ++ (title_text w covers
    ++ (labels_below w rows
    ++ (flat_map tick_text ticks
    ++ (flat_map fold_text folds
    ++ (legend_text (ROW * rows) covers
    ++ (body_text w spans arrows covers notes ++ codes "</svg>\n"))))))
