-- the jiffies that are written above a chart, and its folded rests
use Rattle.std.specs.Prelude.{ℕ, ◌-◌, ◌&&◌, nat_lt, nat_le, Bool, List, [], ◌∷◌, ◌++◌}
use Rattle.std.specs.Prelude.{if◌then◌else◌}
use Rattle.tm_report.specs.declared.lines.Line.{Line}
use Rattle.view_chart.specs.declared.marks.Fold.{Fold}
use Rattle.view_chart.specs.declared.marks.TheConstants.{TICK_REST}
use Rattle.view_chart.specs.declared.model.Point.{Point}
use Rattle.view_chart.specs.declared.model.Window.{Window}
use Rattle.view_chart.specs.declared.model.TheConstants.{LONG_REST}
use Rattle.view_chart.specs.Model.{next_point}

-- whether a jiffy is written at a point, where the last that was stands at a column
abbrev pub ticked : (last : ℕ) → Point → Bool
ticked last q = nat_le last q.column && nat_le TICK_REST (q.column - last)

-- THE POINTS at which the jiffy is written: each that is far enough from the one before
abbrev pub ticks_from : Window → Point → (last : ℕ) → List Line → List Point
ticks_from w p last [] = []
ticks_from w p last (line ∷ rest) =
    if ticked last (next_point w p line) then
    next_point w p line ∷ ticks_from w (next_point w p line) (next_point w p line).column rest
    else ticks_from w (next_point w p line) last rest

-- whether the rest between two points is folded
abbrev pub is_folded : (from to : Point) → Bool
is_folded p q = nat_le p.at q.at && nat_lt LONG_REST (q.at - p.at)

-- THE FOLDED RESTS between lines
abbrev pub folds_from : Window → Point → List Line → List Fold
folds_from w p [] = []
folds_from w p (line ∷ rest) =
    (if is_folded p (next_point w p line) then
    (record { from = p; to = next_point w p line } ∷ [])
    else []) ++ folds_from w (next_point w p line) rest
