-- what of a report can't be drawn
use Rattle.std.specs.Prelude.{ℕ, ◌==◌, nat_lt, List, ◌++◌, codes, length, Option, Some}
use Rattle.std.specs.Prelude.{None, if◌then◌else◌}
use Rattle.std.specs.Fmt.{decimal}
use Rattle.tm_base.specs.declared.names.CpuId.{CpuId}
use Rattle.tm_report.specs.declared.lines.Line.{Line}
use Rattle.view_chart.specs.declared.charting.Choice.{Choice}
use Rattle.view_chart.specs.Charts.{window_of}
use Rattle.view_windows.specs.declared.faults.WindowFault.{WindowFault}
use Rattle.view_windows.specs.declared.faults.WindowFault.TheVariants as faults

-- the choice of a whole report
abbrev pub everything : Choice
everything = record { from = None; to = None; cpus = None }

-- the highest CPU that a report names
abbrev pub highest_cpu : List Line → CpuId
highest_cpu ls = (window_of everything ls).last

-- what is wrong with CPUs that are chosen
abbrev pub cpus_fault : CpuId × CpuId → (highest : CpuId) → Option WindowFault
cpus_fault (first, last) highest =
    if nat_lt last.0 first.0 then Some (faults.CpusFall first last)
    else (if nat_lt highest.0 last.0 then Some (faults.NoSuchCpu last highest) else None)

-- .. if some are
abbrev pub chosen_fault : Option (CpuId × CpuId) → (highest : CpuId) → Option WindowFault
chosen_fault None highest = None
chosen_fault (Some cpus) highest = cpus_fault cpus highest

-- what is wrong with the jiffy at which a chart is to begin
abbrev pub jiffies_fault : Option ℕ → (to : ℕ) → Option WindowFault
jiffies_fault None to = None
jiffies_fault (Some from) to = if nat_lt to from then Some (faults.BeginsBehind from to) else None

-- a fault, or else another one
abbrev pub or_fault : Option WindowFault → Option WindowFault → Option WindowFault
or_fault None other = other
or_fault (Some fault) other = Some fault

-- WHY WHAT IS CHOSEN OF A REPORT CAN'T BE DRAWN, where it can't: the report has no line; the chart
-- would begin behind its end; the first CPU is behind the last; or the report names no such CPU
abbrev pub window_fault : Choice → List Line → Option WindowFault
window_fault choice ls =
    if length ls == 0 then Some faults.NoLine
    else or_fault (jiffies_fault choice.from (window_of choice ls).to)
    (chosen_fault choice.cpus (highest_cpu ls))

-- what is wrong, in words
abbrev pub window_text : WindowFault → List ℕ
window_text faults.NoLine = codes "the report has no line"
window_text (faults.BeginsBehind from to) =
    codes "it would begin at jiffy "
    ++ (decimal from ++ (codes ", behind its end at " ++ decimal to))
window_text (faults.CpusFall first last) =
    codes "the first CPU, "
    ++ (decimal first.0 ++ (codes ", is behind the last, " ++ decimal last.0))
window_text (faults.NoSuchCpu last highest) =
    codes "the report names no CPU "
    ++ (decimal last.0 ++ (codes "; the highest is " ++ decimal highest.0))

-- the text where a chart can't be drawn
unfoldable pub refused_window : WindowFault → List ℕ
refused_window fault = codes "chart refused: " ++ (window_text fault ++ codes "\n")
