-- what of a report is drawn, and the whole picture
use Rattle.std.specs.Prelude.{◌≡◌, ℕ, ◌+◌, nat_lt, min, unwrap_or, Bool, false, List, [], ◌∷◌}
use Rattle.std.specs.Prelude.{Option, Some, None, if◌then◌else◌}
use Rattle.tm_base.specs.declared.names.CpuId.{CpuId}
use Rattle.tm_base.specs.declared.names.TheConstants.{TIME_LIMIT}
use Rattle.tm_report.specs.declared.lines.Line.{Line}
use Rattle.view_chart.specs.declared.charting.Choice.{Choice}
use Rattle.view_chart.specs.declared.charting.NoChart.{NoChart}
use Rattle.view_chart.specs.declared.charting.NoChart.TheVariants as refusals
use Rattle.view_chart.specs.declared.model.Point.{Point}
use Rattle.view_chart.specs.declared.model.Window.{Window}
use Rattle.view_chart.specs.Said.{cpu_in, higher_cpu, line_jiffy}
use Rattle.view_chart.specs.Model.{all_spans, arrows_from, chart_first_point, last_point}
use Rattle.view_chart.specs.Model.{window_cpu_count}
use Rattle.view_chart.specs.Model.{next_point}
use Rattle.view_chart.specs.News.{news_where}
use Rattle.view_chart.specs.Marks.{folds_from, ticks_from}
use Rattle.view_chart.specs.Pictures.{picture_text}

-- the jiffy of the last of these lines that has one, else that of a line before them
abbrev pub last_jiffy : (before : ℕ) → List Line → ℕ
last_jiffy before [] = before
last_jiffy before (line ∷ rest) = last_jiffy (unwrap_or (line_jiffy line) before) rest

-- the highest CPU of these lines and of another
abbrev pub last_cpu : (c : ℕ) → List Line → ℕ
last_cpu c [] = c
last_cpu c (line ∷ rest) = last_cpu (higher_cpu c (cpu_in line)) rest

-- the CPUs that are chosen, or all
abbrev pub chosen_cpus : Option (CpuId × CpuId) → List Line → CpuId × CpuId
chosen_cpus None ls = (record { 0 = 0 }, record { 0 = last_cpu 0 ls })
chosen_cpus (Some cpus) ls = cpus

-- the CPUs that are drawn
abbrev pub cpus_of : Choice → List Line → CpuId × CpuId
cpus_of choice ls = chosen_cpus choice.cpus ls

-- the jiffy at which a chart ends, and that at which it begins
abbrev pub end_chosen : Choice → List Line → ℕ
end_chosen choice ls = min (unwrap_or choice.to (last_jiffy 0 ls)) TIME_LIMIT

-- WHAT OF A REPORT IS DRAWN
abbrev pub window_of : Choice → List Line → Window
window_of choice ls = record {
  from = min (unwrap_or choice.from 0) (end_chosen choice ls);
  to = end_chosen choice ls;
  first = (cpus_of choice ls).0;
  last = (cpus_of choice ls).1;
}

-- whether a line of this jiffy, if it has one, is before another one
abbrev pub is_back : (before : ℕ) → Option ℕ → Bool
is_back before None = false
is_back before (Some at) = nat_lt at before

-- the number of the first of these lines that is of a jiffy before that of a line before it, if
-- there is one; the first line has number n
abbrev pub back_from : (n before : ℕ) → List Line → Option ℕ
back_from n before [] = None
back_from n before (line ∷ rest) =
    if is_back before (line_jiffy line) then Some n
    else back_from (n + 1) (unwrap_or (line_jiffy line) before) rest

-- a refusal tells that line; want of memory says nothing
abbrev pub IsRefusal : List Line → NoChart → Type 0
IsRefusal ls (refusals.BackInTime number) = back_from 1 0 ls ≡ Some number
IsRefusal ls refusals.NoMemory = Unit {0}

-- the point at which a chart of these lines ends
abbrev pub end_from : Window → Point → List Line → Point
end_from w p [] = last_point w p
end_from w p (line ∷ rest) = end_from w (next_point w p line) rest

-- THE PICTURE of a window of a report, with who answers, if that is chosen
unfoldable pub chart_text : Window → (covers : Bool) → List Line → List ℕ
chart_text w covers ls =
    picture_text w (end_from w (chart_first_point w) ls).column (window_cpu_count w)
    (chart_first_point w ∷ ticks_from w (chart_first_point w) 0 ls)
    (folds_from w (chart_first_point w) ls)
    (all_spans w ls) (arrows_from w (chart_first_point w) ls) covers (news_where w covers ls)
