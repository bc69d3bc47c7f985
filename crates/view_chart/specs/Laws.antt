-- what a chart says of its report
use Rattle.std.specs.Prelude.{◌≡◌, ◌⊎◌, ℕ, ◌≤◌, ◌<◌, nat_le, Bool, true, false, List, [], ◌∷◌}
use Rattle.std.specs.Prelude.{◌++◌, Option, Some, None, if◌then◌else◌, map}
use Rattle.tm_report.specs.declared.lines.Line.{Line}
use Rattle.view_chart.specs.declared.model.Arrow.{Arrow}
use Rattle.view_chart.specs.declared.model.Note.{Note}
use Rattle.view_chart.specs.declared.model.Point.{Point}
use Rattle.view_chart.specs.declared.model.Span.{Span}
use Rattle.view_chart.specs.declared.model.Window.{Window}
use Rattle.view_chart.specs.declared.said.Answer.{Answer}
use Rattle.view_chart.specs.declared.said.Run.{Run}
use Rattle.view_chart.specs.declared.said.State.{State}
use Rattle.view_chart.specs.declared.said.State.TheVariants as states
use Rattle.view_chart.specs.Said.{answer_in, line_jiffy, run_in}
use Rattle.view_chart.specs.Model.{arrows_from, chart_first_point, has_answer, has_run, new_state}
use Rattle.view_chart.specs.Model.{notes_from, points_from, spans_of_cpu}
use Rattle.view_chart.specs.News.{known_by, new_of, news_of_cpu, told_of}

-- behind a line of this jiffy, if it has one, the lines go on so
abbrev pub lines_go_on : (before : ℕ) → Option ℕ → (Rest : ℕ → Type 0) → Type 0
lines_go_on before None Rest = Rest before
lines_go_on before (Some at) Rest = (before ≤ at) × Rest at

-- no line is of a jiffy before that of the line before it, as in each report
abbrev pub Ascends : (before : ℕ) → List Line → Type 0
Ascends before [] = Unit {0}
Ascends before (line ∷ rest) = lines_go_on before (line_jiffy line) (λ at. Ascends at rest)

-- whether a line of this jiffy is at or before jiffy j
abbrev pub is_line_by : (j : ℕ) → Option ℕ → Bool
is_line_by j None = false
is_line_by j (Some at) = nat_le at j

-- what a CPU is behind a line, where it was such before it
abbrev pub left_where : State → (counts : Bool) → Option State → State
left_where state false becomes = state
left_where state true None = state
left_where state true (Some becomes) = becomes

-- WHAT A REPORT LEAVES of CPU c at jiffy j, where it was such before these lines: what the last
-- line at or before j that says what it becomes makes of it
abbrev pub state_left_by : (c j : ℕ) → State → List Line → State
state_left_by c j state [] = state
state_left_by c j state (line ∷ rest) =
    state_left_by c j (left_where state (is_line_by j (line_jiffy line)) (new_state c line)) rest

-- a span is one of these
abbrev pub IsSpanAmong : Span → List Span → Type 0
IsSpanAmong s [] = ⊥
IsSpanAmong s (first ∷ rest) = (s ≡ first) ⊎ IsSpanAmong s rest

-- it has this jiffy
pub record HasJiffy (s : Span) (j : ℕ) : Type 0 where
  pub begun : s.from.at ≤ j
  pub not_ended : j < s.to.at

-- there is a span that has this jiffy
pub record IsCovered (spans : List Span) (j : ℕ) : Type 0 where
  pub span : Span
  pub there : IsSpanAmong span spans
  pub has : HasJiffy span j

-- at a jiffy a CPU is drawn as this, and as nothing else
pub record IsCpuDrawn (spans : List Span) (j : ℕ) (state : State) : Type 0 where
  pub covered : IsCovered spans j
  pub each : (s : Span) → IsSpanAmong s spans → HasJiffy s j → s.state ≡ state

-- A CPU IS DRAWN, at each jiffy of the window, as what the report leaves of it: asleep exactly
-- where it leaves it asleep
abbrev pub StatesRight : Type 0
StatesRight = (w : Window) (c : ℕ) (ls : List Line) (j : ℕ) → Ascends 0 ls → w.from ≤ j →
    j < w.to → IsCpuDrawn (spans_of_cpu w c ls) j (state_left_by c j states.Awake ls)

-- what an arrow shows
abbrev pub shown_by : Arrow → Run
shown_by a = record { at = a.point.at; home = a.home; runner = a.runner; timer = a.timer }

-- a run, if there is one and the window has it
abbrev pub run_for : Window → Option Run → List Run
run_for w None = []
run_for w (Some r) = if has_run w r then (r ∷ []) else []

-- the runs that a report tells in a window, in the order of their lines
abbrev pub runs_in : Window → List Line → List Run
runs_in w [] = []
runs_in w (line ∷ rest) = run_for w (run_in line) ++ runs_in w rest

-- EACH RUN OF THE WINDOW HAS ONE ARROW, from its home to its runner at its jiffy, and nothing else
-- has
abbrev pub ArrowsRight : Type 0
ArrowsRight = (w : Window) (ls : List Line) → Ascends 0 ls → w.from ≤ w.to →
    map shown_by (arrows_from w (chart_first_point w) ls) ≡ runs_in w ls

-- what a note shows
abbrev pub noted_by : Note → Answer
noted_by n = record { at = n.point.at; cpu = n.cpu; wheel = n.wheel; cover = n.cover }

-- an answer, if there is one and the window has it
abbrev pub answer_for : Window → Option Answer → List Answer
answer_for w None = []
answer_for w (Some a) = if has_answer w a then (a ∷ []) else []

-- the answers that a report tells in a window, in the order of their lines
abbrev pub answers_in : Window → List Line → List Answer
answers_in w [] = []
answers_in w (line ∷ rest) = answer_for w (answer_in line) ++ answers_in w rest

-- EACH ANSWER OF THE WINDOW HAS ONE NOTE, at its CPU and its jiffy, of its time and of who answers,
-- and nothing else has
abbrev pub NotesRight : Type 0
NotesRight = (w : Window) (ls : List Line) → Ascends 0 ls → w.from ≤ w.to →
    map noted_by (notes_from w (chart_first_point w) ls) ≡ answers_in w ls

-- an answer, if there is one
abbrev pub answer_listed : Option Answer → List Answer
answer_listed None = []
answer_listed (Some a) = a ∷ []

-- the answers for CPU c that a report tells in a window and that are new, where this is known
abbrev pub news_in : Window → (c : ℕ) → (known : Option Answer) → List Line → List Answer
news_in w c known [] = []
news_in w c known (line ∷ rest) =
    answer_listed (new_of known (told_of w c line)) ++ news_in w c (known_by w c known line) rest

-- EACH ANSWER FOR A CPU THAT IS NEW HAS ONE NUMBER in a picture, in the row of the CPU at the jiffy
-- of the line, of its time and of who answers, and nothing else has
abbrev pub NewsRight : Type 0
NewsRight = (w : Window) (c : ℕ) (ls : List Line) → Ascends 0 ls → w.from ≤ w.to →
    map noted_by (news_of_cpu w c ls) ≡ news_in w c None ls

-- of two points the later one has a later column, and points of one jiffy have one column
pub record IsBehind (p q : Point) : Type 0 where
  pub at : p.at ≤ q.at
  pub later : p.at < q.at → p.column < q.column
  pub same : p.at ≡ q.at → p.column ≡ q.column

-- these points are behind another one
abbrev pub AreBehind : Point → List Point → Type 0
AreBehind p [] = Unit {0}
AreBehind p (q ∷ rest) = IsBehind p q × AreBehind p rest

-- each point is behind all that stand before it
abbrev pub PointsRise : List Point → Type 0
PointsRise [] = Unit {0}
PointsRise (p ∷ rest) = AreBehind p rest × PointsRise rest

-- FOLDING SWALLOWS NOTHING: the columns of lines rise with their jiffies, so each jiffy with a line
-- has its own column
abbrev pub ColumnsRise : Type 0
ColumnsRise = (w : Window) (ls : List Line) →
    PointsRise (chart_first_point w ∷ points_from w (chart_first_point w) ls)
