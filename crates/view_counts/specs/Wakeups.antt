-- WAKEUPS: what stands behind each by the machine before its moment, who keeps the same event, and
-- what it ran
use Rattle.std.specs.Prelude.{ℕ, ◌+◌, ◌-◌, ◌==◌, ◌&&◌, not, Bool, true, false, List, [], ◌∷◌}
use Rattle.std.specs.Prelude.{◌++◌, Option, Some, None, codes, if◌then◌else◌, length, nat_lt}
use Rattle.std.specs.Prelude.{slice_index_or, slice_set}
use Rattle.std.specs.List.{fold}
use Rattle.std.specs.Fmt.{decimal}
use Rattle.view_counts.specs.Counts.{at_cpu, woke}
use Rattle.view_counts.specs.declared.counts.Cause.{Cause}
use Rattle.view_counts.specs.declared.counts.Cause.TheVariants as causes
use Rattle.view_counts.specs.declared.counts.CpuCounts.{CpuCounts}
use Rattle.view_counts.specs.declared.wakeups.Reason.{Reason}
use Rattle.view_counts.specs.declared.wakeups.Reason.TheVariants as reasons
use Rattle.view_counts.specs.declared.wakeups.Wakeup.{Wakeup}

-- a CPU that wakes for an event of the top group
abbrev pub keeps_event : Reason → Bool
keeps_event reasons.NoWakeup = false
keeps_event reasons.OwnPinned = false
keeps_event reasons.OwnGlobal = false
keeps_event (reasons.TopEvent d) = true
keeps_event (reasons.GoneTimer d) = true
keeps_event reasons.Gone = false

-- THE SECOND KEEPER: the lowest CPU of these, of which the first is CPU k, that isn't CPU c and
-- wakes for an event of the top group
unfoldable pub keeper_from : (k c : ℕ) → List Reason → Option ℕ
keeper_from k c [] = None
keeper_from k c (x ∷ xs) =
    if keeps_event x && not (k == c) then Some k else keeper_from (k + 1) c xs

-- the other keeper of the event for which CPU c wakes, if it is for one
abbrev pub keeper_of : (c : ℕ) → Reason → List Reason → Option ℕ
keeper_of c x xs = if keeps_event x then keeper_from 0 c xs else None

-- what stands behind a wakeup of CPU c, where this was so before the moment
abbrev pub reason_at : List Reason → (c : ℕ) → Reason
reason_at xs c = slice_index_or xs c reasons.NoWakeup

-- A WAKEUP of CPU c at a time, which has run nothing yet
abbrev pub wakeup_at : (at c : ℕ) → List Reason → Wakeup
wakeup_at at c xs = record {
  at = at;
  cpu = record { 0 = c };
  reason = reason_at xs c;
  keeper = keeper_of c (reason_at xs c) xs;
  cause = causes.Nothing;
}

-- no wakeup
abbrev pub no_wakeup : Wakeup
no_wakeup = wakeup_at 0 0 []

-- the last wakeup was for this
abbrev pub last_for : Cause → List Wakeup → List Wakeup
last_for cause ws =
    if nat_lt 0 (length ws) then
    slice_set ws (length ws - 1)
    (record (slice_index_or ws (length ws - 1) no_wakeup) { cause = cause })
    else ws

-- CPU c of a list has this reason; there are no others than those of the list
abbrev pub with_reason : (c : ℕ) → Reason → List Reason → List Reason
with_reason c x xs = if nat_lt c (length xs) then slice_set xs c x else xs

-- a wakeup counts for its CPU by what it ran
abbrev pub count_one : List CpuCounts → Wakeup → List CpuCounts
count_one ks w = at_cpu w.cpu.0 (woke w.cause) ks

-- THE WAKEUPS THAT ARE COUNTED are those that are listed
abbrev pub counted : List CpuCounts → List Wakeup → List CpuCounts
counted ks ws = fold count_one ks ws

-- ---- the list

-- the words of a reason
abbrev pub reason_text : Reason → List ℕ
reason_text reasons.NoWakeup = codes "nothing"
reason_text reasons.OwnPinned = codes "a pinned timer of its own"
reason_text reasons.OwnGlobal = codes "a global timer of its own"
reason_text (reasons.TopEvent d) = codes "the top's first event, of CPU " ++ decimal d.0
reason_text (reasons.GoneTimer d) =
    codes "an event of a timer of CPU " ++ (decimal d.0 ++ codes " that is gone")
reason_text reasons.Gone = codes "a timer or an event that is gone"

-- the words of another keeper
abbrev pub keeper_text : Option ℕ → List ℕ
keeper_text None = []
keeper_text (Some d) = codes " (CPU " ++ (decimal d ++ codes " keeps it too)")

-- the words of what it ran
abbrev pub cause_text : Cause → List ℕ
cause_text causes.Pinned = codes "; counts for pinned\n"
cause_text causes.Global = codes "; counts for global\n"
cause_text causes.Others = codes "; counts for others\n"
cause_text causes.Deferrable = codes "; counts for deferrable\n"
cause_text causes.Nothing = codes "; counts for nothing\n"

-- THE LINE of a wakeup
unfoldable pub wakeup_line : Wakeup → List ℕ
wakeup_line w =
    decimal w.at ++ (codes " CPU " ++ (decimal w.cpu.0 ++ (codes ": " ++ (reason_text w.reason
    ++ (keeper_text w.keeper ++ cause_text w.cause)))))

-- the lines of these wakeups
unfoldable pub wakeup_lines : List Wakeup → List ℕ
wakeup_lines [] = []
wakeup_lines (w ∷ ws) = wakeup_line w ++ wakeup_lines ws

-- THE LIST of the wakeups of a play, and how many there are
unfoldable pub wakeups_text : List Wakeup → List ℕ
wakeups_text ws = wakeup_lines ws ++ (codes "wakeups " ++ (decimal (length ws) ++ codes "\n"))
