-- the notes of a picture: of the answers for a CPU those that say something new of it
use Rattle.std.specs.Prelude.{ℕ, zero, suc, ◌+◌, ◌==◌, ◌&&◌, Bool, true, false, List, [], ◌∷◌, ◌++◌}
use Rattle.std.specs.Prelude.{Option, Some, None, if◌then◌else◌}
use Rattle.tm_report.specs.declared.lines.Line.{Line}
use Rattle.tm_report.specs.declared.lines.ShownCover.{ShownCover}
use Rattle.tm_report.specs.declared.lines.ShownCover.TheVariants as covers
use Rattle.view_chart.specs.declared.model.Note.{Note}
use Rattle.view_chart.specs.declared.model.Point.{Point}
use Rattle.view_chart.specs.declared.model.Window.{Window}
use Rattle.view_chart.specs.declared.said.Answer.{Answer}
use Rattle.view_chart.specs.declared.said.State.{State}
use Rattle.view_chart.specs.Said.{answer_in}
use Rattle.view_chart.specs.Model.{chart_first_point, has_jiffy, new_state, next_point}
use Rattle.view_chart.specs.Model.{window_cpu_count}

-- whether it is this CPU, by the migrators of this group, that answers
abbrev pub is_led_by_cover : (level place m : ℕ) → ShownCover → Bool
is_led_by_cover level place m (covers.Migrator other_level other_place cpu) =
    (level == other_level) && ((place == other_place) && (m == cpu.0))
is_led_by_cover level place m (covers.Wake cpu at) = false

-- whether it is this CPU, which wakes at u
abbrev pub is_woken : (x u : ℕ) → ShownCover → Bool
is_woken x u (covers.Migrator level place cpu) = false
is_woken x u (covers.Wake cpu at) = (x == cpu.0) && (u == at)

-- whether two covers are the same
abbrev pub is_same_cover : ShownCover → ShownCover → Bool
is_same_cover (covers.Migrator level place cpu) other = is_led_by_cover level place cpu.0 other
is_same_cover (covers.Wake cpu at) other = is_woken cpu.0 at other

-- whether an answer says what is known of its CPU already: the same time, and the same cover
abbrev pub is_known : (known : Option Answer) → Answer → Bool
is_known None a = false
is_known (Some k) a = (k.wheel == a.wheel) && is_same_cover k.cover a.cover

-- an answer, if it is one for CPU c at a jiffy of the window
abbrev pub told_where : Window → (c : ℕ) → Option Answer → Option Answer
told_where w c None = None
told_where w c (Some a) = if has_jiffy w a.at && (a.cpu.0 == c) then Some a else None

-- the answer for CPU c at a jiffy of the window that a line tells
abbrev pub told_of : Window → (c : ℕ) → Line → Option Answer
told_of w c line = told_where w c (answer_in line)

-- AN ANSWER IS NEW where it isn't known
abbrev pub new_of : (known told : Option Answer) → Option Answer
new_of known None = None
new_of known (Some a) = if is_known known a then None else Some a

-- what is known of a CPU behind a line: the answer that it tells; nothing, where the CPU becomes
-- something by it
abbrev pub known_where : (known told : Option Answer) → (becomes : Option State) → Option Answer
known_where known (Some a) becomes = Some a
known_where known None (Some state) = None
known_where known None None = known

-- what is known of CPU c behind a line
abbrev pub known_by : Window → (c : ℕ) → (known : Option Answer) → Line → Option Answer
known_by w c known line = known_where known (told_of w c line) (new_state c line)

-- the note of an answer at a point
abbrev pub note_at : Point → Option Answer → List Note
note_at q None = []
note_at q (Some a) =
    record { point = q; cpu = a.cpu; wheel = a.wheel; cover = a.cover } ∷ []

-- THE NEWS of CPU c of lines behind a point, where this is known of it
abbrev pub news_from : Window → (c : ℕ) → Point → (known : Option Answer) → List Line →
    List Note
news_from w c p known [] = []
news_from w c p known (line ∷ rest) =
    note_at (next_point w p line) (new_of known (told_of w c line))
    ++ news_from w c (next_point w p line) (known_by w c known line) rest

-- THE NEWS of CPU c
unfoldable pub news_of_cpu : Window → (c : ℕ) → List Line → List Note
news_of_cpu w c ls = news_from w c (chart_first_point w) None ls

-- the news of so many CPUs of a window
abbrev pub news_below : Window → (count : ℕ) → List Line → List Note
news_below w zero ls = []
news_below w (suc n) ls = news_below w n ls ++ news_of_cpu w (w.first.0 + n) ls

-- the news of each CPU of a window, if they are chosen
abbrev pub news_where : Window → (covers : Bool) → List Line → List Note
news_where w true ls = news_below w (window_cpu_count w) ls
news_where w false ls = []
