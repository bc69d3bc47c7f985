-- THE ROWS of what was counted, in words and numbers for scripts: a row for each CPU, one for all,
-- and the end
use Rattle.std.specs.Prelude.{ℕ, ◌+◌, List, [], ◌∷◌, ◌++◌, codes, max}
use Rattle.std.specs.List.{fold}
use Rattle.std.specs.Fmt.{decimal}
use Rattle.view_counts.specs.Counts.{more, no_counts}
use Rattle.view_counts.specs.declared.counts.CpuCounts.{CpuCounts}

-- a word with its number
abbrev pub field_text : (word : List ℕ) → (n : ℕ) → List ℕ
field_text word n = word ++ decimal n

-- how long it was what
unfoldable pub times_text : CpuCounts → List ℕ
times_text k =
    field_text (codes " awake ") k.awake ++ (field_text (codes " asleep ") k.asleep
    ++ (field_text (codes " offline ") k.offline ++ field_text (codes " longest ") k.longest))

-- how often it woke, and what for
unfoldable pub wakeups_text : CpuCounts → List ℕ
wakeups_text k =
    field_text (codes " wakeups ") k.wakeups ++ (field_text (codes " pinned ") k.pinned
    ++ (field_text (codes " global ") k.global ++ (field_text (codes " others ") k.others
    ++ (field_text (codes " deferrable ") k.deferrable
    ++ field_text (codes " nothing ") k.nothing))))

-- whose timers it ran, who ran its own, and how long it was migrator
unfoldable pub runs_text : CpuCounts → List ℕ
runs_text k =
    field_text (codes " runs_for ") k.runs_for ++ (field_text (codes " runs_by ") k.runs_by
    ++ (field_text (codes " migrator ") k.migrator ++ codes "\n"))

-- all that was counted of a CPU
abbrev pub counts_text : CpuCounts → List ℕ
counts_text k = times_text k ++ (wakeups_text k ++ runs_text k)

-- THE ROW of CPU c
abbrev pub cpu_row : (c : ℕ) → CpuCounts → List ℕ
cpu_row c k = field_text (codes "cpu ") c ++ counts_text k

-- THE ROWS of these CPUs, of which the first is CPU c
unfoldable pub cpu_rows : (c : ℕ) → List CpuCounts → List ℕ
cpu_rows c [] = []
cpu_rows c (k ∷ ks) = cpu_row c k ++ cpu_rows (c + 1) ks

-- what was counted of two together; the longest sleep is that of either
abbrev pub both : CpuCounts → CpuCounts → CpuCounts
both a b = record {
  awake = more a.awake b.awake;
  asleep = more a.asleep b.asleep;
  offline = more a.offline b.offline;
  sleep = 0;
  longest = max a.longest b.longest;
  wakeups = more a.wakeups b.wakeups;
  pinned = more a.pinned b.pinned;
  global = more a.global b.global;
  others = more a.others b.others;
  deferrable = more a.deferrable b.deferrable;
  nothing = more a.nothing b.nothing;
  runs_for = more a.runs_for b.runs_for;
  runs_by = more a.runs_by b.runs_by;
  migrator = more a.migrator b.migrator;
}

-- what was counted of all
abbrev pub total : List CpuCounts → CpuCounts
total ks = fold both no_counts ks

-- THE ROWS of a whole play that ended there
unfoldable pub rows_text : (end : ℕ) → List CpuCounts → List ℕ
rows_text end ks =
    cpu_rows 0 ks ++ ((codes "all" ++ counts_text (total ks))
    ++ (field_text (codes "end ") end ++ codes "\n"))
