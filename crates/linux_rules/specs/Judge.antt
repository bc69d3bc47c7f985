-- the fold over the lines of a trace
use Rattle.std.specs.Prelude.{◌≡◌, ◌⊎◌, ℕ, Bool, true, false, List, [], ◌∷◌}
use Rattle.std.specs.Prelude.{Option, Some, None, Result, Ok, Err, if◌then◌else◌}
use Rattle.std.specs.Prelude.{length, find, ◌==◌, ◌&&◌}
use Rattle.text_words.specs.Words.{lines_of}
use Rattle.tm_base.specs.declared.names.CpuId.{CpuId}
use Rattle.linux_lines.specs.declared.faults.LineFault.{LineFault}
use Rattle.linux_lines.specs.declared.events.Happening.{Happening}
use Rattle.linux_lines.specs.declared.events.Happening.TheVariants.{GroupMade, GroupJoined}
use Rattle.linux_lines.specs.declared.events.Happening.TheVariants.{CpuJoined, Exchanged, CpuTold}
use Rattle.linux_lines.specs.declared.events.Happening.TheVariants.{Updated, Handling}
use Rattle.linux_lines.specs.declared.events.Line.{Line}
use Rattle.linux_lines.specs.declared.events.Line.TheVariants.{Remark, Loss, Foreign, Told}
use Rattle.linux_lines.specs.declared.events.Line.TheVariants.{OfTimer}
use Rattle.linux_lines.specs.Lines.{line_of}
use Rattle.linux_seen.specs.declared.rules.Rule.{Rule}
use Rattle.linux_seen.specs.declared.rules.Rule.TheVariants as rules
use Rattle.linux_rules.specs.declared.judge.Tally.{Tally}
use Rattle.linux_rules.specs.declared.judge.Course.{Course}
use Rattle.linux_rules.specs.declared.judge.Misfit.{Misfit}
use Rattle.linux_rules.specs.declared.judge.Open.{Open}
use Rattle.linux_rules.specs.declared.judge.Verdict.{Verdict}
use Rattle.linux_rules.specs.declared.judge.Verdict.TheVariants.{Fits, Broken, NoTrace}
use Rattle.linux_seen.specs.declared.seen.Late.{Late}
use Rattle.linux_seen.specs.declared.whom.Whom.{Whom}
use Rattle.linux_seen.specs.Seen.{Sight, cpu_at, group_at, timed}
use Rattle.linux_runs.specs.declared.runs.Runs.{Runs}
use Rattle.linux_runs.specs.Runs.{no_runs, runs_after}
use Rattle.linux_runs.specs.Differences.{differences_after, no_differences}
use Rattle.linux_timers.specs.declared.tallies.TimerTally.{TimerTally}
use Rattle.linux_timers.specs.Seen.{no_timers}
use Rattle.linux_timers.specs.Rule.{timer_fault, timers_after}
use Rattle.linux_timers.specs.Tallies.{no_timer_tally, timer_tally_after}
use Rattle.linux_seen.specs.Counts.{counted, counted_if}
use Rattle.linux_seen.specs.Whom.{edge_whom, event_whom}
use Rattle.linux_seen.specs.Tree.{cpu_joining_fault, group_joining_fault, spot_fits}
use Rattle.linux_seen.specs.Walks.{is_open, may_rest}
use Rattle.linux_seen.specs.declared.seen.CpuSeen.{CpuSeen}
use Rattle.linux_rules.specs.Firsts.{is_on_way}
use Rattle.linux_rules.specs.Marks.{kept_lines, lost_lines}
use Rattle.linux_rules.specs.Exchanges.{exchange_fault, learned_exchange, with_cpu}
use Rattle.linux_rules.specs.Orders.{first_late, late_on, stuck_rule}
use Rattle.linux_rules.specs.Cpus.{cpu_fault, learned_cpu, learned_cpu_link, learned_group_link}
use Rattle.linux_rules.specs.Cpus.{learned_place, learned_update, looked, moved_on, update_fault}
use Rattle.linux_seen.specs.Rests.{at_rest, rest_fits}
use Rattle.linux_told.specs.Told.{answers_if, missing_whom, no_answers, told_fits}

-- ---- one event

-- the CPU looks after others in the middle of its walk, or at a group that isn't on its way up
abbrev pub handling_fault : Sight → CpuId → ℕ → Option Rule
handling_fault s cpu group =
    if may_rest (cpu_at s cpu).walk && is_on_way s (cpu_at s cpu) group then None
    else Some rules.Walk

-- the rule that an event's own line breaks
unfoldable pub fault_of : Sight → CpuId → Happening → Option Rule
fault_of s cpu (GroupMade place) = if spot_fits s place then None else Some rules.Tree
fault_of s cpu (GroupJoined child j) = group_joining_fault s child j
fault_of s cpu (CpuJoined joined j) = cpu_joining_fault s joined j
fault_of s cpu (Exchanged e) = exchange_fault s cpu e
fault_of s cpu (CpuTold t) = cpu_fault s cpu t
fault_of s cpu (Updated u) = update_fault s cpu u
fault_of s cpu (Handling group) = handling_fault s cpu group

-- what is known after an event
unfoldable pub learned : Sight → ℕ → CpuId → Happening → Sight
learned s line cpu (GroupMade place) = moved_on (learned_place s place) line cpu
learned s line cpu (GroupJoined child j) = learned_group_link s line cpu child j
learned s line cpu (CpuJoined joined j) = learned_cpu_link s line cpu joined j
learned s line cpu (Exchanged e) = learned_exchange s line cpu e
learned s line cpu (CpuTold t) = learned_cpu s line cpu t
learned s line cpu (Updated u) = learned_update s line cpu u
learned s line cpu (Handling group) = looked s line cpu group

-- what is wrong of those of whom is spoken
abbrev pub misfit_of : ℕ → Rule → Whom → Misfit
misfit_of line rule whom = record { line = line; rule = rule; whom = whom }

-- the misfit of a line after which the rest is wrong: by its bits, of the first group or CPU whose
-- bit is wrong, or by what was told, of the first CPU for which nobody answers
abbrev pub rest_by : ℕ → Sight → Bool → Bool → Option Misfit
rest_by line s true true = None
rest_by line s true false = Some (misfit_of line rules.Told (missing_whom s))
rest_by line s false told = Some (misfit_of line rules.Rest (edge_whom s))

-- the misfit of a line after which this is known
abbrev pub rest_misfit : ℕ → Sight → Option Misfit
rest_misfit line s = rest_by line s (rest_fits s) (told_fits s)

-- of whom a late exchange speaks
abbrev pub late_whom : Late → Whom
late_whom late = record { cpu = Some late.cpu; group = Some late.exchange.place.group }

-- the misfit of a late exchange that breaks this rule: that of its own line
abbrev pub late_misfit : Option Rule → Late → Option Misfit
late_misfit None late = None
late_misfit (Some rule) late = Some (misfit_of late.line rule (late_whom late))

-- the misfit of the first late exchange on a group
abbrev pub stuck_late : Option Late → Sight → ℕ → ℕ → Option Misfit
stuck_late None s line group = None
stuck_late (Some late) s line group =
    late_misfit (stuck_rule line (late_on group s.late) s.cpus (group_at s group).word late) late

-- the misfit of a late exchange that stays late at this event, by what is known after it
unfoldable pub stuck_misfit : Sight → ℕ → Happening → Option Misfit
stuck_misfit s line (Exchanged e) =
    stuck_late (first_late e.place.group s.late) s line e.place.group
stuck_misfit s line (GroupMade place) = None
stuck_misfit s line (GroupJoined child j) = None
stuck_misfit s line (CpuJoined joined j) = None
stuck_misfit s line (CpuTold t) = None
stuck_misfit s line (Updated u) = None
stuck_misfit s line (Handling group) = None

-- the misfit of a line, by the first rule that it breaks
abbrev pub misfit_by : Option Rule → Option Misfit → ℕ → CpuId → Happening → Sight → Option Misfit
misfit_by (Some rule) stuck line cpu h after = Some (misfit_of line rule (event_whom cpu h))
misfit_by None (Some misfit) line cpu h after = Some misfit
misfit_by None None line cpu h after = rest_misfit line after

-- where an event leaves the rules: by its own line, by a late exchange that stays late, or by what
-- is known after it
unfoldable pub told_misfit : Sight → ℕ → CpuId → Happening → Option Misfit
told_misfit s line cpu h =
    misfit_by (fault_of s cpu h) (stuck_misfit (learned s line cpu h) line h) line cpu h
    (learned s line cpu h)

-- ---- one line

-- nothing is known
abbrev pub no_sight : Sight
no_sight = record { groups = []; cpus = []; clock = None; late = [] }

-- the number of the CPU's last line
abbrev pub noted : Sight → ℕ → CpuId → Sight
noted s line cpu = with_cpu s (record (cpu_at s cpu) { last = line })

-- what is seen after a line
unfoldable pub seen_after : Sight → ℕ → Line → Sight
seen_after s line Remark = s
seen_after s line Loss = no_sight
seen_after s line (Foreign cpu odd) = noted s line cpu
seen_after s line (Told cpu at h) = learned (timed s at) line cpu h
seen_after s line (OfTimer cpu at e) = noted s line cpu

-- the misfit of a line, if it has one
unfoldable pub line_misfit : Sight → ℕ → Line → Option Misfit
line_misfit s line Remark = None
line_misfit s line Loss = None
line_misfit s line (Foreign cpu odd) = None
line_misfit s line (Told cpu at h) = told_misfit (timed s at) line cpu h
line_misfit s line (OfTimer cpu at e) = None

-- the misfit of a line that breaks the rule of timers, by the CPU that wrote it
abbrev pub timer_misfit : ℕ → Option CpuId → Option Misfit
timer_misfit line None = None
timer_misfit line (Some cpu) =
    Some (misfit_of line rules.Timer (record { cpu = Some cpu; group = None }))

-- the first of two misfits
abbrev pub first_misfit : Option Misfit → Option Misfit → Option Misfit
first_misfit None other = other
first_misfit (Some misfit) other = Some misfit

-- a line that tells an exchange
abbrev pub is_exchange : Line → Bool
is_exchange (Told cpu at (Exchanged e)) = true
is_exchange (Told cpu at (GroupMade place)) = false
is_exchange (Told cpu at (GroupJoined child j)) = false
is_exchange (Told cpu at (CpuJoined joined j)) = false
is_exchange (Told cpu at (CpuTold t)) = false
is_exchange (Told cpu at (Updated u)) = false
is_exchange (Told cpu at (Handling group)) = false
is_exchange Remark = false
is_exchange Loss = false
is_exchange (Foreign cpu odd) = false
is_exchange (OfTimer cpu at e) = false

-- a line of timer migration
abbrev pub is_told : Line → Bool
is_told (Told cpu at h) = true
is_told Remark = false
is_told Loss = false
is_told (Foreign cpu odd) = false
is_told (OfTimer cpu at e) = false

-- an event of timer migration that isn't known
abbrev pub is_strange : Line → Bool
is_strange (Foreign cpu strange) = strange
is_strange (Told cpu at h) = false
is_strange Remark = false
is_strange Loss = false
is_strange (OfTimer cpu at e) = false

-- the first of such lines: this one, unless there was one before
abbrev pub first_line : Bool → ℕ → ℕ → ℕ
first_line is_such line before = if is_such && before == 0 then line else before

-- the last of such lines
abbrev pub last_line : Bool → ℕ → ℕ → ℕ
last_line is_such line before = if is_such then line else before

-- a line that tells of lost ones
abbrev pub is_loss_line : Line → Bool
is_loss_line Loss = true
is_loss_line Remark = false
is_loss_line (Foreign cpu odd) = false
is_loss_line (Told cpu at h) = false
is_loss_line (OfTimer cpu at e) = false

-- no walk is under way after a line of timer migration
abbrev pub rests_after : Line → Sight → Bool
rests_after (Told cpu at h) s = at_rest s
rests_after Remark s = false
rests_after Loss s = false
rests_after (Foreign cpu odd) s = false
rests_after (OfTimer cpu at e) s = false

-- the counts after a line, with these of runs and of timers, by what is known then
unfoldable pub tally_after : Tally → Runs → TimerTally → Line → Sight → Tally
tally_after t runs timers said s = record {
  lines = counted t.lines;
  lost = t.lost;
  events = counted_if (is_told said) t.events;
  exchanges = counted_if (is_exchange said) t.exchanges;
  rests = counted_if (rests_after said s) t.rests;
  rested = last_line (rests_after said s) (counted t.lines) t.rested;
  losses = counted_if (is_loss_line said) t.losses;
  unknown = counted_if (is_strange said) t.unknown;
  unknown_at = first_line (is_strange said) (counted t.lines) t.unknown_at;
  answers = answers_if (rests_after said s) t.answers s;
  runs = runs;
  differences = differences_after t.differences s said;
  timers = timers;
}

-- ---- the trace

-- nothing is counted
abbrev pub no_tally : Tally
no_tally = record {
  lines = 0;
  lost = 0;
  events = 0;
  exchanges = 0;
  rests = 0;
  rested = 0;
  losses = 0;
  unknown = 0;
  unknown_at = 0;
  answers = no_answers;
  runs = no_runs;
  differences = no_differences;
  timers = no_timer_tally;
}

-- before the first line that counts, behind so many that don't
abbrev pub start_behind : ℕ → Course
start_behind lost = record {
  seen = no_sight;
  timers = no_timers;
  tally = record no_tally { lines = lost; lost = lost };
}

-- before the first line of a trace that counts
abbrev pub start : List (List ℕ) → Course
start texts = start_behind (lost_lines texts)

-- the verdict of a misfit
abbrev pub verdict_of : Option Misfit → Option Verdict
verdict_of None = None
verdict_of (Some misfit) = Some (Broken misfit)

-- what a line decides, by the rule of timers last; its number is one more than the lines before it
abbrev pub said_verdict : Course → Result Line LineFault → Option Verdict
said_verdict k (Err fault) = Some (NoTrace (counted k.tally.lines) fault)
said_verdict k (Ok said) =
    verdict_of
    (first_misfit (line_misfit k.seen (counted k.tally.lines) said)
    (timer_misfit (counted k.tally.lines) (timer_fault k.timers said)))

-- what stands after a line
abbrev pub said_after : Course → Result Line LineFault → Course
said_after k (Err fault) = k
said_after k (Ok said) = record {
  seen = seen_after k.seen (counted k.tally.lines) said;
  timers = timers_after k.timers (counted k.tally.lines) said;
  tally = tally_after k.tally (runs_after k.tally.runs k.seen said)
      (timer_tally_after k.tally.timers k.timers said) said
      (seen_after k.seen (counted k.tally.lines) said);
}

-- the verdict that a line decides, if it does
unfoldable pub text_verdict : Course → List ℕ → Option Verdict
text_verdict k text = said_verdict k (line_of text)

-- what stands after the text of a line
unfoldable pub text_after : Course → List ℕ → Course
text_after k text = said_after k (line_of text)

-- the CPU
abbrev pub named : Option CpuSeen → Option CpuId
named None = None
named (Some c) = Some c.cpu

-- what is open: how many exchanges are late, and the first CPU that is in the middle of a walk
abbrev pub open_at : Sight → Open
open_at s = record {
  late = length s.late;
  walker = named (find (λ c. is_open c.walk) s.cpus);
}

-- the first of two verdicts
abbrev pub verdict_or : Option Verdict → Verdict → Verdict
verdict_or None later = later
verdict_or (Some verdict) later = verdict

-- what is said of a trace whose lines are these, from here on
abbrev pub judged : Course → List (List ℕ) → Verdict
judged k [] = Fits k.tally (open_at k.seen)
judged k (text ∷ texts) = verdict_or (text_verdict k text) (judged (text_after k text) texts)

-- WHAT IS SAID OF A TRACE of these lines: of those that count
abbrev pub said_of : List (List ℕ) → Verdict
said_of texts = judged (start texts) (kept_lines texts)

-- each line fits, by what was seen before it
abbrev pub EachFits : Course → List (List ℕ) → Type 0
EachFits k [] = Unit {0}
EachFits k (text ∷ texts) = (text_verdict k text ≡ None) × EachFits (text_after k text) texts

-- EACH LINE that counts FITS, by what was seen before it
abbrev pub EachLineFits : List ℕ → Type 0
EachLineFits bytes = EachFits (start (lines_of bytes)) (kept_lines (lines_of bytes))

-- the verdict of a trace that fits
abbrev pub IsFitting : Verdict → Type 0
IsFitting (Fits tally ends) = Unit {0}
IsFitting (Broken misfit) = ⊥
IsFitting (NoTrace line fault) = ⊥

-- the first line that doesn't fit decides this
abbrev pub IsFirstAt : Course → List (List ℕ) → Verdict → Type 0
IsFirstAt k [] verdict = ⊥
IsFirstAt k (text ∷ texts) verdict =
    (text_verdict k text ≡ Some verdict)
    ⊎ ((text_verdict k text ≡ None) × IsFirstAt (text_after k text) texts verdict)

-- the verdict is what the first line that doesn't fit decides
abbrev pub IsFirstFault : List ℕ → Verdict → Type 0
IsFirstFault bytes verdict =
    IsFirstAt (start (lines_of bytes)) (kept_lines (lines_of bytes)) verdict
