-- THE COLUMNS of what was counted, for people: a heading, a line for each CPU, and one for all
use Rattle.std.specs.Prelude.{ℕ, ◌+◌, ◌-◌, ◌*◌, ◌/◌, ◌^◌, ◌==◌, List, [], ◌∷◌, ◌++◌, codes}
use Rattle.std.specs.Prelude.{if◌then◌else◌, length, min, replicate}
use Rattle.std.specs.Fmt.{decimal}
use Rattle.view_counts.specs.Counts.{more}
use Rattle.view_counts.specs.Rows.{total}
use Rattle.view_counts.specs.declared.columns.TheConstants.{CELL, LABEL, SPACE}
use Rattle.view_counts.specs.declared.counts.CpuCounts.{CpuCounts}

-- a text at the right end of so many columns
abbrev pub right : (width : ℕ) → (text : List ℕ) → List ℕ
right width text = replicate (width - length text) SPACE ++ text

-- a number in its column, with a space in front
abbrev pub cell : ℕ → List ℕ
cell n = codes " " ++ right CELL (decimal n)

-- how long all was
abbrev pub whole : CpuCounts → ℕ
whole k = more (more k.awake k.asleep) k.offline

-- of a hundred parts of that time so many asleep
abbrev pub share : CpuCounts → ℕ
share k = if whole k == 0 then 0 else min (k.asleep * 100) (2 ^ 64 - 1) / whole k

-- how long it was what
unfoldable pub time_cells : CpuCounts → List ℕ
time_cells k =
    cell k.awake ++ (cell k.asleep ++ (cell k.offline ++ (cell (share k) ++ cell k.longest)))

-- how often it woke, and what for
unfoldable pub wakeup_cells : CpuCounts → List ℕ
wakeup_cells k =
    cell k.wakeups ++ (cell k.pinned ++ (cell k.global ++ (cell k.others ++ (cell k.deferrable
    ++ cell k.nothing))))

-- whose timers it ran, who ran its own, and how long it was migrator
unfoldable pub run_cells : CpuCounts → List ℕ
run_cells k = cell k.runs_for ++ (cell k.runs_by ++ (cell k.migrator ++ codes "\n"))

-- the line of a CPU, or of all
abbrev pub line_of : (label : List ℕ) → CpuCounts → List ℕ
line_of label k = right LABEL label ++ (time_cells k ++ (wakeup_cells k ++ run_cells k))

-- THE LINES of these CPUs, of which the first is CPU c
unfoldable pub cpu_lines : (c : ℕ) → List CpuCounts → List ℕ
cpu_lines c [] = []
cpu_lines c (k ∷ ks) = line_of (decimal c) k ++ cpu_lines (c + 1) ks

-- what stands above the columns
abbrev pub heading : List ℕ
heading =
    codes "CPU    awake   asleep  offline   asleep  longest  wakeups   pinned   global   others"
    ++ codes "   defer.  nothing  ran for   ran by migrator\n"
    ++ codes "     jiffies  jiffies  jiffies  percent  jiffies\n"

-- THE COLUMNS of a whole play
unfoldable pub columns_text : List CpuCounts → List ℕ
columns_text ks = heading ++ (cpu_lines 0 ks ++ line_of (codes "all") (total ks))
