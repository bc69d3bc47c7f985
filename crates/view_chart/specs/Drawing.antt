-- bars, arrows and labels of a chart, as SVG: one unit is a column of the chart; a row has three
use Rattle.std.specs.Prelude.{ℕ, zero, suc, ◌+◌, ◌-◌, ◌*◌, ◌==◌, nat_lt, Bool, true, false, List, []}
use Rattle.std.specs.Prelude.{◌++◌, codes, if◌then◌else◌}
use Rattle.tm_report.specs.Words.{time_word}
use Rattle.view_chart.specs.declared.drawing.TheConstants.{ROW}
use Rattle.view_chart.specs.declared.marks.Fold.{Fold}
use Rattle.view_chart.specs.declared.model.Arrow.{Arrow}
use Rattle.view_chart.specs.declared.model.Point.{Point}
use Rattle.view_chart.specs.declared.model.Span.{Span}
use Rattle.view_chart.specs.declared.model.Window.{Window}
use Rattle.view_chart.specs.declared.said.State.{State}
use Rattle.view_chart.specs.declared.said.State.TheVariants as states
use Rattle.view_chart.specs.Pieces.{piece_with_number, three, two}

-- where the row of CPU c is, in units from the top
abbrev pub row_of : Window → (c : ℕ) → ℕ
row_of w c = if nat_lt c w.first.0 then 0 else ROW * (c - w.first.0)

-- how the bar of a state begins: a thick bar is awake, a thin line asleep, a dotted one offline
abbrev pub bar_text : State → List ℕ
bar_text states.Awake = codes "<path class=\"a\" d=\"M"
bar_text (states.Asleep until) = codes "<path class=\"s\" d=\"M"
bar_text states.Offline = codes "<path class=\"o\" d=\"M"

-- what a CPU is, in words
abbrev pub state_text : State → List ℕ
state_text states.Awake = codes " awake"
state_text (states.Asleep until) = codes " asleep, its wakeup" ++ time_word until
state_text states.Offline = codes " offline"

-- a bar, from the column at which a span begins to the one at which it ends, and its title
unfoldable pub bar_line : Window → Span → List ℕ
bar_line w s =
    bar_text s.state
    ++ (three [] s.from.column (codes " ") (row_of w s.cpu.0) (codes "H") s.to.column
    ++ (two (codes "\"><title>jiffies ") s.from.at (codes " to ") s.to.at
    ++ (piece_with_number (codes ": CPU ") s.cpu.0
    ++ (state_text s.state ++ codes "</title></path>\n"))))

-- A SPAN: a bar, and nothing where it has no column
unfoldable pub span_text : Window → Span → List ℕ
span_text w s = if nat_lt s.from.column s.to.column then bar_line w s else []

-- the way of an arrow of class w, whose home and runner are one: into their row from above
abbrev pub way_in : Window → Arrow → List ℕ
way_in w a =
    two (codes "<path class=\"w\" d=\"M") a.point.column (codes " ") (row_of w a.home.0)
    ++ codes "m0-1.3v.8"

-- the way of one of class r, which has a dot at its tail: from the row of its home to that of its
-- runner
abbrev pub way_across : Window → Arrow → List ℕ
way_across w a =
    two (codes "<path class=\"r\" d=\"M") a.point.column (codes " ") (row_of w a.home.0)
    ++ piece_with_number (codes "V") (row_of w a.runner.0)

-- the way of an arrow
unfoldable pub arrow_way : Window → Arrow → List ℕ
arrow_way w a = if a.home.0 == a.runner.0 then way_in w a else way_across w a

-- the title of an arrow
unfoldable pub arrow_title : Arrow → List ℕ
arrow_title a =
    two (codes "\"><title>jiffy ") a.point.at (codes ": CPU ") a.runner.0
    ++ two (codes " runs timer ") a.timer.0 (codes " of CPU ") a.home.0

-- AN ARROW, and its title
unfoldable pub arrow_text : Window → Arrow → List ℕ
arrow_text w a = arrow_way w a ++ (arrow_title a ++ codes "</title></path>\n")

-- a jiffy above the chart
unfoldable pub tick_text : Point → List ℕ
tick_text p =
    two (codes "<text x=\"") p.column (codes "\" y=\"-2\">") p.at ++ codes "</text>\n"

-- a folded rest, which ends at a column
unfoldable pub fold_text : Fold → List ℕ
fold_text f =
    three (codes "<text class=\"f\" x=\"") f.to.column
    (codes "\" y=\"-1.2\" dx=\"-6\">~<title>folded: jiffies ") f.from.at (codes " to ") f.to.at
    ++ codes "</title></text>\n"

-- the label of a row, so many units from the top
unfoldable pub row_label : (top cpu : ℕ) → List ℕ
row_label top cpu =
    two (codes "<text class=\"c\" x=\"-1\" y=\"") top (codes "\" dy=\".4\">CPU ") cpu
    ++ codes "</text>\n"

-- the labels of so many rows
abbrev pub labels_below : Window → (rows : ℕ) → List ℕ
labels_below w zero = []
labels_below w (suc n) = labels_below w n ++ row_label (ROW * n) (w.first.0 + n)

-- what notes are, if there are some
abbrev pub legend_of_notes : (covers : Bool) → List ℕ
legend_of_notes true =
    codes "<text y=\"2.5\">a number below a line: the CPU that answers for the sleeper</text>"
legend_of_notes false = []

-- WHAT THE MARKS MEAN, so many units from the top
unfoldable pub legend_text : (top : ℕ) → (covers : Bool) → List ℕ
legend_text top covers =
    piece_with_number (codes "<g transform=\"translate(0 ") top
    ++ ((codes ")\"><path class=\"a\" d=\"M0 0h3\"/><text x=\"4\" y=\".5\">awake</text>"
    ++ codes "<path class=\"s\" d=\"M10 0h3\"/><text x=\"14\" y=\".5\">asleep</text>"
    ++ codes "<path class=\"o\" d=\"M20 0h3\"/><text x=\"24\" y=\".5\">offline</text>"
    ++ codes "<path class=\"r\" d=\"M31-.8V.8\"/><text x=\"32\" y=\".5\">from a timer's home"
    ++ codes " (dot) to the CPU that ran it</text>")
    ++ (legend_of_notes covers ++ codes "</g>\n"))
