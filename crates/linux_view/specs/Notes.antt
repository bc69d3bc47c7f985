-- what tmigview writes only where there is something to say
use Rattle.std.specs.Prelude.{ℕ, ◌/◌, nat_lt, List, [], ◌++◌, codes, ◌==◌}
use Rattle.std.specs.Prelude.{Option, Some, None, if◌then◌else◌}
use Rattle.std.specs.Fmt.{decimal}
use Rattle.tm_base.specs.declared.names.CpuId.{CpuId}
use Rattle.linux_all.specs.linux_rules.declared.judge.Open.{Open}
use Rattle.linux_all.specs.linux_rules.declared.judge.Tally.{Tally}
use Rattle.linux_runs.specs.declared.runs.Runs.{Runs}

-- a number behind these bytes
unfoldable pub count_text : List ℕ → ℕ → List ℕ
count_text before n = before ++ decimal n

-- lines that don't count, since what some CPUs wrote then was overwritten
unfoldable pub lost_note : ℕ → List ℕ
lost_note lost =
    if lost == 0 then []
    else count_text (codes "lost: ") lost
    ++ codes " lines, which stand before the start of a CPU's buffer\n"

-- events of timer migration that aren't known
unfoldable pub unknown_note : Tally → List ℕ
unknown_note t =
    if t.unknown == 0 then []
    else count_text (codes "unknown: ") t.unknown
    ++ count_text (codes " events of timer migration, the first of them on line ") t.unknown_at
    ++ codes "\n"

-- whose walk is open at the end, and since which line there was no rest
unfoldable pub walk_note : Option CpuId → ℕ → List ℕ
walk_note None rested = []
walk_note (Some cpu) rested =
    count_text (codes "walk: CPU ") cpu.0
    ++ count_text (codes " is in the middle of one, and there was no rest since line ") rested
    ++ codes "\n"

-- how many of the expiries that CPUs tell as they fall asleep are past
unfoldable pub past_text : Runs → List ℕ
past_text r =
    count_text (codes "clock: ") r.past ++ count_text (codes " of ") r.told
    ++ codes " expiries told at tmigr_cpu_idle were past by then, so the trace clock isn't mono\n"

-- .. where most of them are
unfoldable pub clock_note : Runs → List ℕ
clock_note r = if nat_lt (r.told / 2) r.past then past_text r else []

-- walks that ended at a group that was asleep by then: the cause of forgotten timers
unfoldable pub asleep_note : Runs → List ℕ
asleep_note r =
    if r.stopped == 0 then []
    else count_text (codes "tmigr_inactive_up: ") r.stopped
    ++ codes " walks ended at a group that their update found asleep\n"

-- the notes on runs
unfoldable pub run_notes_text : Runs → List ℕ
run_notes_text r = clock_note r ++ asleep_note r

-- all notes
unfoldable pub notes_text : Tally → Open → List ℕ
notes_text t ends =
    lost_note t.lost ++ unknown_note t ++ walk_note ends.walker t.rested ++ run_notes_text t.runs
