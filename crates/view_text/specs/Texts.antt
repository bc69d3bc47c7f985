-- a whole chart as text
use Rattle.std.specs.Prelude.{ℕ, Bool, List, ◌∷◌, ◌++◌, codes}
use Rattle.std.specs.List.{flat_map}
use Rattle.std.specs.Fmt.{decimal}
use Rattle.tm_report.specs.declared.lines.Line.{Line}
use Rattle.view_chart.specs.declared.model.Window.{Window}
use Rattle.view_chart.specs.Model.{all_spans, arrows_from, chart_first_point, notes_where}
use Rattle.view_chart.specs.Model.{points_from}
use Rattle.view_text.specs.Lists.{note_text, run_text}
use Rattle.view_text.specs.Pages.{end_of, page_count, pages_below}

-- the first line: the jiffies, and what the characters say
unfoldable pub head_text : Window → List ℕ
head_text w =
    codes "jiffies " ++ (decimal w.from ++ (codes " to " ++ (decimal w.to
    ++ codes "; # awake, - asleep, . offline\n")))

-- THE TEXT of a window of a report: the spans of its CPUs, its expiries, and who answers, if that
-- is chosen, as a picture draws them too (`spans_of`, `arrows_of`, `notes_of` of `view_chart`)
unfoldable pub window_text : Window → (covers : Bool) → List Line → List ℕ
window_text w covers ls =
    head_text w
    ++ (pages_below (page_count (end_of 0 (all_spans w ls)))
    (chart_first_point w ∷ points_from w (chart_first_point w) ls) (all_spans w ls)
    ++ (flat_map run_text (arrows_from w (chart_first_point w) ls)
    ++ flat_map note_text (notes_where w covers ls)))
