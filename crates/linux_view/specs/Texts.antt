-- what tmigview writes
use Rattle.std.specs.Prelude.{ℕ, zero, suc, ◌+◌, ◌/◌, ◌%◌, nat_lt, List, [], ◌∷◌, ◌++◌, codes, ◌==◌}
use Rattle.std.specs.Prelude.{◌&&◌}
use Rattle.std.specs.Prelude.{Option, Some, None, if◌then◌else◌, flat_map, length, nat_eq}
use Rattle.tm_base.specs.declared.names.CpuId.{CpuId}
use Rattle.linux_lines.specs.declared.faults.LineFault.{LineFault}
use Rattle.linux_lines.specs.declared.faults.LineFault.TheVariants.{NoEvent, BadCpu, FieldMissing}
use Rattle.linux_lines.specs.declared.faults.LineFault.TheVariants.{BadNumber, OutOfRange}
use Rattle.linux_lines.specs.declared.faults.LineFault.TheVariants.{HiddenPointer}
use Rattle.linux_seen.specs.declared.rules.Rule.{Rule}
use Rattle.linux_seen.specs.declared.rules.Rule.TheVariants.{Group, Tree, Node, Walk, Exchange}
use Rattle.linux_seen.specs.declared.rules.Rule.TheVariants.{Order, Cpu, Event, First, Remote, Wakeup}
use Rattle.linux_seen.specs.declared.rules.Rule.TheVariants.{Rest, Told}
use Rattle.linux_seen.specs.declared.rules.Rule.TheVariants.{Timer}
use Rattle.linux_all.specs.linux_rules.declared.judge.Tally.{Tally}
use Rattle.linux_view.specs.Notes.{count_text, notes_text}
use Rattle.linux_told.specs.declared.told.Answers.{Answers}
use Rattle.linux_seen.specs.declared.whom.Whom.{Whom}
use Rattle.linux_runs.specs.declared.runs.Runs.{Runs}
use Rattle.linux_runs.specs.declared.differences.Differences.{Differences}
use Rattle.linux_timers.specs.declared.tallies.TimerTally.{TimerTally}
use Rattle.linux_view.specs.declared.statuses.TheConstants.{FITS, MISFIT, NO_TRACE, NOTHING}
use Rattle.linux_view.specs.declared.texts.TheConstants.{POINTER_DIGITS}
use Rattle.linux_all.specs.linux_rules.declared.judge.Misfit.{Misfit}
use Rattle.linux_all.specs.linux_rules.declared.judge.Open.{Open}
use Rattle.linux_all.specs.linux_rules.declared.judge.Verdict.{Verdict}
use Rattle.linux_all.specs.linux_rules.declared.judge.Verdict.TheVariants.{Fits, Broken, NoTrace}

-- the text where the words are no command
abbrev pub usage_line : List ℕ
usage_line =
    codes "usage: tmigview linux [--all] < TRACE | orders [--rule NAME] [--show N] [--states N] "
    ++ (codes "< CASE | explain < STEPS | stat [--rows | --wakeups | --alone] < SCRIPT "
    ++ (codes "| stat SCRIPT SCRIPT | chart [--text] [--covers] [--from J] [--to J] [--cpus A-B] "
    ++ codes "< REPORT\n"))

-- .. where the source failed
abbrev pub read_fault_line : List ℕ
read_fault_line = codes "tmigview: the input could not be read\n"

-- .. where it has too many bytes
abbrev pub too_long_line : List ℕ
too_long_line = codes "tmigview: the input has more than 67108864 bytes\n"

-- a rule in words
unfoldable pub rule_text : Rule → List ℕ
rule_text Group =
    codes "a group's migrator is one of its active children, and none where none is (tmigr_active_up, tmigr_inactive_up)"
rule_text Tree =
    codes "groups keep levels, parents and children's numbers (tmigr_setup_groups)"
rule_text Node =
    codes "a group of a node has children of that node alone (tmigr_setup_groups)"
rule_text Walk = codes "a walk goes on exactly where it has to (__walk_groups)"
rule_text Exchange =
    codes "an exchange follows from the state before it (tmigr_active_up, tmigr_inactive_up)"
rule_text Order =
    codes "the search for an order gave up, as more than 40 exchanges on a group are late (tmigr_active_up, tmigr_inactive_up)"
rule_text Cpu =
    codes "a CPU wakes where it sleeps, and only a sleeping one is run elsewhere (tmigr_cpu_activate, tmigr_handle_remote_cpu)"
rule_text First =
    codes "a group's first event is no later than one that another child has there (tmigr_next_groupevt)"
rule_text Remote =
    codes "a CPU's timers are run elsewhere when its event is due (tmigr_handle_remote_cpu)"
rule_text Event = codes "an event is the first of a sleeping child (tmigr_update_events)"
rule_text Wakeup =
    codes "an idle CPU wakes for the first event of a sleeping top (tmigr_next_groupevt_expires)"
rule_text Told =
    codes "each idle CPU's told timer is answered for (tmigr_update_events, tmigr_inactive_up)"
rule_text Rest =
    codes "with no walk under way a child's bit says whether it is active (tmigr_active_up, tmigr_inactive_up)"
rule_text Timer =
    codes "an armed timer is in its bucket and runs at its wheel expiry, at home or in a run for its CPU (calc_wheel_index, expire_timers)"

-- why a line is no line of a trace
unfoldable pub fault_text : LineFault → List ℕ
fault_text NoEvent = codes "there is no [CPU] with a time behind it"
fault_text BadCpu = codes "the CPU is past 511, the last one that is known here"
fault_text FieldMissing = codes "a field is missing"
fault_text BadNumber = codes "a field is no number"
fault_text OutOfRange = codes "a field is out of range"
fault_text HiddenPointer = codes "pointers are hidden: boot with no_hash_pointers"

-- what was counted, under this heading
unfoldable pub tally_text : List ℕ → Tally → List ℕ
tally_text heading t =
    count_text heading t.lines ++ count_text (codes " events ") t.events
    ++ count_text (codes " exchanges ") t.exchanges ++ count_text (codes " rests ") t.rests
    ++ count_text (codes " losses ") t.losses

-- who answered for what was told
unfoldable pub answers_text : Answers → List ℕ
answers_text a =
    count_text (codes "\ntold: held ") a.held ++ count_text (codes " woken ") a.woken
    ++ count_text (codes " itself ") a.itself ++ count_text (codes " open ") a.unsure
    ++ count_text (codes " due ") a.due

-- how many runs of other CPUs' timers were late by a tick or so
unfoldable pub tick_runs_text : Runs → List ℕ
tick_runs_text r =
    count_text (codes " 4000us ") r.in_4_ms ++ count_text (codes " 10000us ") r.in_10_ms

-- .. by more, or by an unknown time
unfoldable pub late_runs_text : Runs → List ℕ
late_runs_text r =
    count_text (codes " 100000us ") r.in_100_ms ++ count_text (codes " later ") r.later
    ++ count_text (codes " open ") r.unsure

-- how late other CPUs' timers were run
unfoldable pub runs_text : Runs → List ℕ
runs_text r =
    count_text (codes "\nremote: 1000us ") r.in_1_ms ++ tick_runs_text r ++ late_runs_text r

-- what Linux does otherwise with events and wakeups
unfoldable pub events_text : Differences → List ℕ
events_text d =
    count_text (codes "\nlinux: early ") d.early ++ count_text (codes " twice ") d.twice

-- .. with runs of timers, of which so many were of forwarded bases
unfoldable pub orders_text : Runs → ℕ → List ℕ
orders_text r forwarded =
    count_text (codes " order ") r.queued ++ count_text (codes " own ") r.itself
    ++ count_text (codes " forwarded ") forwarded

-- what isn't known at the end
unfoldable pub open_text : Runs → ℕ → List ℕ
open_text r late =
    count_text (codes "\nopen: late exchanges ") late
    ++ count_text (codes " astray ") r.astray

-- what was counted of timers
unfoldable pub timer_counts_text : TimerTally → List ℕ
timer_counts_text t =
    count_text (codes "\ntimers: armed ") t.armed ++ count_text (codes " ran ") t.ran
    ++ count_text (codes " remote ") t.remote ++ count_text (codes " open ") t.unsure

-- .. or that the trace has none of their lines
unfoldable pub timers_text : TimerTally → List ℕ
timers_text t =
    if t.armed == 0 && t.ran == 0 then codes "\nnot checked: timers\n"
    else timer_counts_text t ++ codes "\n"

-- what was counted besides
unfoldable pub others_text : Tally → List ℕ
others_text t =
    runs_text t.runs ++ events_text t.differences ++ orders_text t.runs t.timers.forwarded

-- what stands last: what isn't known, the timers, and notes
unfoldable pub last_text : Tally → Open → List ℕ
last_text t ends = open_text t.runs ends.late ++ timers_text t.timers ++ notes_text t ends

-- all counts, under this heading
unfoldable pub counts_text : List ℕ → Tally → Open → List ℕ
counts_text heading t ends =
    tally_text heading t ++ answers_text t.answers ++ others_text t ++ last_text t ends

-- the heading of a trace that fits, or has no event of timer migration
abbrev pub fits_heading : Tally → List ℕ
fits_heading t = if t.events == 0 then codes "nothing to judge: lines " else codes "fits: lines "

-- the text of a trace that fits
abbrev pub fits_text : Tally → Open → List ℕ
fits_text t ends = counts_text (fits_heading t) t ends

-- one digit in hexadecimal
abbrev pub hex_digit : ℕ → ℕ
hex_digit d = if nat_lt d 10 then 48 + d else 87 + d

-- the last so many digits of a number in hexadecimal
unfoldable pub hex_digits : ℕ → ℕ → List ℕ
hex_digits zero n = []
hex_digits (suc count) n = hex_digits count (n / 16) ++ hex_digit (n % 16) ∷ []

-- a CPU, where there is one
abbrev pub cpu_text : Option CpuId → List ℕ
cpu_text None = []
cpu_text (Some cpu) = count_text (codes ", CPU ") cpu.0

-- a group by its pointer, where there is one
abbrev pub behind_text : Option ℕ → List ℕ
behind_text None = []
behind_text (Some pointer) = codes ", group " ++ hex_digits POINTER_DIGITS pointer

-- of whom something is said
unfoldable pub whom_text : Whom → List ℕ
whom_text w = cpu_text w.cpu ++ behind_text w.group

-- the text of a trace that breaks a rule
unfoldable pub broken_text : Misfit → List ℕ
broken_text m =
    count_text (codes "line ") m.line ++ whom_text m.whom ++ codes ": " ++ rule_text m.rule
    ++ codes "\n"

-- .. of what is no trace
unfoldable pub no_trace_text : ℕ → LineFault → List ℕ
no_trace_text line fault =
    count_text (codes "line ") line ++ codes ": no line of a trace: " ++ fault_text fault
    ++ codes "\n"

-- THE TEXT of a verdict
unfoldable pub verdict_text : Verdict → List ℕ
verdict_text (Fits tally ends) = fits_text tally ends
verdict_text (Broken misfit) = broken_text misfit
verdict_text (NoTrace line fault) = no_trace_text line fault

-- the texts of misfits, in order
abbrev pub misfits_text : List Misfit → List ℕ
misfits_text ms = flat_map broken_text ms

-- what stands behind so many misfits: their number with all counts, or that a line is none of a
-- trace
unfoldable pub end_text : ℕ → Verdict → List ℕ
end_text n (Fits tally ends) =
    count_text (codes "misfits: ") n ++ counts_text (codes "\nread: lines ") tally ends
end_text n (Broken misfit) = broken_text misfit
end_text n (NoTrace line fault) = no_trace_text line fault

-- THE TEXT of all that was found: of a trace without misfits that of its verdict
abbrev pub all_text : List Misfit → Verdict → List ℕ
all_text [] end = verdict_text end
all_text (m ∷ ms) end = misfits_text (m ∷ ms) ++ end_text (length (m ∷ ms)) end

-- the status of a trace that fits, or has no event of timer migration
abbrev pub fits_status : Tally → ℕ
fits_status t = if t.events == 0 then NOTHING else FITS

-- the status of all that was found
abbrev pub all_status : List Misfit → Verdict → ℕ
all_status ms (Fits tally ends) = if nat_eq (length ms) 0 then fits_status tally else MISFIT
all_status ms (Broken misfit) = MISFIT
all_status ms (NoTrace line fault) = NO_TRACE
