-- the model of a chart: spans in which a CPU stays what it is, an arrow for each expiry, and a note
-- for each answer
use Rattle.std.specs.Prelude.{ℕ, zero, suc, ◌+◌, ◌-◌, ◌==◌, ◌&&◌, nat_lt, nat_le, Bool, true, false}
use Rattle.std.specs.Prelude.{List, [], ◌∷◌, ◌++◌, Option, Some, None, if◌then◌else◌}
use Rattle.tm_report.specs.declared.lines.Line.{Line}
use Rattle.view_chart.specs.declared.model.Arrow.{Arrow}
use Rattle.view_chart.specs.declared.model.Course.{Course}
use Rattle.view_chart.specs.declared.model.Note.{Note}
use Rattle.view_chart.specs.declared.model.Point.{Point}
use Rattle.view_chart.specs.declared.model.Span.{Span}
use Rattle.view_chart.specs.declared.model.Window.{Window}
use Rattle.view_chart.specs.declared.model.TheConstants.{LONG_REST}
use Rattle.view_chart.specs.declared.said.Answer.{Answer}
use Rattle.view_chart.specs.declared.said.Change.{Change}
use Rattle.view_chart.specs.declared.said.Run.{Run}
use Rattle.view_chart.specs.declared.said.State.{State}
use Rattle.view_chart.specs.declared.said.State.TheVariants as states
use Rattle.view_chart.specs.Said.{answer_in, change_in, line_jiffy, run_in}

-- ---- jiffies and columns

-- FOLDING: how many columns a rest of so many jiffies has
abbrev pub step_of : (rest : ℕ) → ℕ
step_of rest = if nat_le rest LONG_REST then rest else LONG_REST

-- a jiffy within a window: one before it is at its begin, and one behind it at its end
abbrev pub place : Window → (at : ℕ) → ℕ
place w at = if nat_lt at w.from then w.from else (if nat_lt w.to at then w.to else at)

-- the later of two jiffies
abbrev pub later_jiffy : (before at : ℕ) → ℕ
later_jiffy before at = if nat_lt at before then before else at

-- the jiffy within a window of a line's jiffy, if it has one, behind a line
abbrev pub at_behind : Window → (before : ℕ) → Option ℕ → ℕ
at_behind w before None = before
at_behind w before (Some at) = later_jiffy before (place w at)

-- the jiffy of a line in the chart
abbrev pub next_at : Window → (before : ℕ) → Line → ℕ
next_at w before line = at_behind w before (line_jiffy line)

-- the point of a jiffy that isn't before another point: the rest between them is folded
abbrev pub point_behind : Point → (at : ℕ) → Point
point_behind p at = record { at = at; column = p.column + step_of (at - p.at) }

-- THE POINT of a line, behind that of the line before it
abbrev pub next_point : Window → Point → Line → Point
next_point w p line = point_behind p (next_at w p.at line)

-- the point at which a chart begins
abbrev pub chart_first_point : Window → Point
chart_first_point w = record { at = w.from; column = 0 }

-- the point at which it ends, behind that of the last line
abbrev pub last_point : Window → Point → Point
last_point w p = if nat_lt w.to p.at then p else point_behind p w.to

-- the points of lines behind a point
abbrev pub points_from : Window → Point → List Line → List Point
points_from w p [] = []
points_from w p (line ∷ rest) = next_point w p line ∷ points_from w (next_point w p line) rest

-- ---- spans

-- what a CPU becomes by a change, if the change is this CPU's
abbrev pub state_for : (c : ℕ) → Option Change → Option State
state_for c None = None
state_for c (Some change) = if change.cpu.0 == c then Some change.state else None

-- what a CPU becomes by a line
abbrev pub new_state : (c : ℕ) → Line → Option State
new_state c line = state_for c (change_in line)

-- the span that ends where a CPU becomes something
abbrev pub ended_where : (c : ℕ) → Course → Point → Option State → List Span
ended_where c course q None = []
ended_where c course q (Some state) =
    record { cpu = record { 0 = c }; state = course.state; from = course.since; to = q } ∷ []

-- what is known of a CPU behind a point
abbrev pub course_where : Course → Point → Option State → Course
course_where course q None = record course { point = q }
course_where course q (Some state) = record { state = state; since = q; point = q }

-- the span that a line ends
abbrev pub ended_by : Window → (c : ℕ) → Course → Line → List Span
ended_by w c course line = ended_where c course (next_point w course.point line) (new_state c line)

-- what is known of a CPU behind a line
abbrev pub course_by : Window → (c : ℕ) → Course → Line → Course
course_by w c course line = course_where course (next_point w course.point line) (new_state c line)

-- THE SPANS of CPU c behind what is known of it
abbrev pub spans_from : Window → (c : ℕ) → Course → List Line → List Span
spans_from w c course [] =
    record {
      cpu = record { 0 = c };
      state = course.state;
      from = course.since;
      to = last_point w course.point;
    } ∷ []
spans_from w c course (line ∷ rest) =
    ended_by w c course line ++ spans_from w c (course_by w c course line) rest

-- before the first line a CPU is awake
abbrev pub course_begun : Window → Course
course_begun w =
    record { state = states.Awake; since = chart_first_point w; point = chart_first_point w }

-- THE SPANS of CPU c
unfoldable pub spans_of_cpu : Window → (c : ℕ) → List Line → List Span
spans_of_cpu w c ls = spans_from w c (course_begun w) ls

-- how many CPUs a window has
abbrev pub window_cpu_count : Window → ℕ
window_cpu_count w = if nat_le w.first.0 w.last.0 then w.last.0 - w.first.0 + 1 else 0

-- the spans of so many CPUs of a window
abbrev pub spans_below : Window → (count : ℕ) → List Line → List Span
spans_below w zero ls = []
spans_below w (suc n) ls = spans_below w n ls ++ spans_of_cpu w (w.first.0 + n) ls

-- the spans of each CPU of a window
abbrev pub all_spans : Window → List Line → List Span
all_spans w ls = spans_below w (window_cpu_count w) ls

-- ---- arrows

-- whether a window has this CPU
abbrev pub has_cpu : Window → (c : ℕ) → Bool
has_cpu w c = nat_le w.first.0 c && nat_le c w.last.0

-- whether it has this jiffy
abbrev pub has_jiffy : Window → (at : ℕ) → Bool
has_jiffy w at = nat_le w.from at && nat_le at w.to

-- whether it has a run: its jiffy, and both of its CPUs
abbrev pub has_run : Window → Run → Bool
has_run w r = has_jiffy w r.at && (has_cpu w r.home.0 && has_cpu w r.runner.0)

-- the arrow of a run at a point: from its home to its runner
abbrev pub arrow_for : Window → Point → Option Run → List Arrow
arrow_for w q None = []
arrow_for w q (Some r) =
    if has_run w r then
    (record { point = q; home = r.home; runner = r.runner; timer = r.timer } ∷ [])
    else []

-- the arrow of a line at a point
abbrev pub arrow_by : Window → Point → Line → List Arrow
arrow_by w q line = arrow_for w q (run_in line)

-- THE ARROWS of lines behind a point
abbrev pub arrows_from : Window → Point → List Line → List Arrow
arrows_from w p [] = []
arrows_from w p (line ∷ rest) =
    arrow_by w (next_point w p line) line ++ arrows_from w (next_point w p line) rest

-- ---- who answers

-- whether a window has an answer: its jiffy, and its idle CPU
abbrev pub has_answer : Window → Answer → Bool
has_answer w a = has_jiffy w a.at && has_cpu w a.cpu.0

-- the note of an answer at a point
abbrev pub note_for : Window → Point → Option Answer → List Note
note_for w q None = []
note_for w q (Some a) =
    if has_answer w a then
    (record { point = q; cpu = a.cpu; wheel = a.wheel; cover = a.cover } ∷ [])
    else []

-- the note of a line at a point
abbrev pub note_by : Window → Point → Line → List Note
note_by w q line = note_for w q (answer_in line)

-- THE NOTES of lines behind a point
abbrev pub notes_from : Window → Point → List Line → List Note
notes_from w p [] = []
notes_from w p (line ∷ rest) =
    note_by w (next_point w p line) line ++ notes_from w (next_point w p line) rest

-- the notes of a window, if they are chosen
abbrev pub notes_where : Window → (covers : Bool) → List Line → List Note
notes_where w true ls = notes_from w (chart_first_point w) ls
notes_where w false ls = []
