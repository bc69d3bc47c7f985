-- TWO PLAYS COMPARED, in columns for people: what was counted in the one, in the other, and by how
-- much the other differs
use Rattle.std.specs.Prelude.{ℕ, zero, suc, ◌+◌, ◌-◌, List, [], ◌++◌, codes, if◌then◌else◌}
use Rattle.std.specs.Prelude.{length, max, nat_lt, slice_index_or}
use Rattle.std.specs.Fmt.{decimal}
use Rattle.view_counts.specs.Columns.{columns_text, heading, right, share}
use Rattle.view_counts.specs.Counts.{no_counts}
use Rattle.view_counts.specs.Rows.{total}
use Rattle.view_counts.specs.declared.columns.TheConstants.{CELL, LABEL}
use Rattle.view_counts.specs.declared.counts.CpuCounts.{CpuCounts}

-- by how much the second number differs from the first, with its sign
abbrev pub signed_text : (one two : ℕ) → List ℕ
signed_text one two =
    if nat_lt one two then codes "+" ++ decimal (two - one)
    else (if nat_lt two one then codes "-" ++ decimal (one - two)
    else codes "0")

-- .. in its column, with a space in front
abbrev pub signed_cell : (one two : ℕ) → List ℕ
signed_cell one two = codes " " ++ right CELL (signed_text one two)

-- how long it was what
unfoldable pub time_differences : (one two : CpuCounts) → List ℕ
time_differences a b =
    signed_cell a.awake b.awake ++ (signed_cell a.asleep b.asleep
    ++ (signed_cell a.offline b.offline ++ (signed_cell (share a) (share b)
    ++ signed_cell a.longest b.longest)))

-- how often it woke, and what for
unfoldable pub wakeup_differences : (one two : CpuCounts) → List ℕ
wakeup_differences a b =
    signed_cell a.wakeups b.wakeups ++ (signed_cell a.pinned b.pinned
    ++ (signed_cell a.global b.global ++ (signed_cell a.others b.others
    ++ (signed_cell a.deferrable b.deferrable ++ signed_cell a.nothing b.nothing))))

-- whose timers it ran, who ran its own, and how long it was migrator
unfoldable pub run_differences : (one two : CpuCounts) → List ℕ
run_differences a b =
    signed_cell a.runs_for b.runs_for ++ (signed_cell a.runs_by b.runs_by
    ++ (signed_cell a.migrator b.migrator ++ codes "\n"))

-- the line of a CPU, or of all
abbrev pub difference_line : (label : List ℕ) → (one two : CpuCounts) → List ℕ
difference_line label a b =
    right LABEL label ++ (time_differences a b ++ (wakeup_differences a b ++ run_differences a b))

-- what was counted of CPU c; of one that there isn't nothing
abbrev pub counts_at : List CpuCounts → (c : ℕ) → CpuCounts
counts_at ks c = slice_index_or ks c no_counts

-- THE LINES of n CPUs, of which the first is CPU c
unfoldable pub difference_lines : (n c : ℕ) → (ones twos : List CpuCounts) → List ℕ
difference_lines zero c ones twos = []
difference_lines (suc n) c ones twos =
    difference_line (decimal c) (counts_at ones c) (counts_at twos c)
    ++ difference_lines n (c + 1) ones twos

-- THE DIFFERENCE
unfoldable pub difference_text : (ones twos : List CpuCounts) → List ℕ
difference_text ones twos =
    heading ++ (difference_lines (max (length ones) (length twos)) 0 ones twos
    ++ difference_line (codes "all") (total ones) (total twos))

-- what stands above the three parts: of two scripts, or of one that is played on a machine where
-- every CPU but the lowest is isolated as well
pub record Titles : Type 0 where
  pub one : List ℕ
  pub two : List ℕ
  pub less : List ℕ

-- BOTH AND THE DIFFERENCE
unfoldable pub comparison_text : Titles → (ones twos : List CpuCounts) → List ℕ
comparison_text titles ones twos =
    titles.one ++ (columns_text ones ++ (titles.two ++ (columns_text twos
    ++ (titles.less ++ difference_text ones twos))))
