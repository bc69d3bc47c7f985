-- the fold over the lines of a report
use Rattle.std.specs.Prelude.{◌≡◌, ◌⊎◌, ℕ, ◌*◌, ◌==◌, Bool, true, false, List, [], ◌∷◌}
use Rattle.std.specs.Prelude.{Option, Some, None, map, slice_get, if◌then◌else◌}
use Rattle.std.specs.List.{range_with_len}
use Rattle.tm_base.specs.declared.names.CpuId.{CpuId}
use Rattle.tm_base.specs.declared.names.TimerId.{TimerId}
use Rattle.tm_report.specs.declared.lines.Line.{Line}
use Rattle.tm_report.specs.declared.lines.Line.TheVariants as lines
use Rattle.tm_script.specs.declared.syntax.Script.{Script}
use Rattle.view_story.specs.declared.closing.MovedLine.{MovedLine}
use Rattle.view_story.specs.declared.faults.Fault.{Fault}
use Rattle.view_story.specs.declared.faults.Fault.TheVariants as faults
use Rattle.view_story.specs.declared.judge.Told.{Told}
use Rattle.view_story.specs.declared.judge.Told.TheVariants as tolds
use Rattle.view_story.specs.declared.judge.Verdict.{Verdict}
use Rattle.view_story.specs.declared.judge.Verdict.TheVariants as verdicts
use Rattle.view_story.specs.declared.operations.Answer.{Answer}
use Rattle.view_story.specs.declared.operations.Answer.TheVariants as answers
use Rattle.view_story.specs.declared.seen.CpuSeen.{CpuSeen}
use Rattle.view_story.specs.declared.seen.Point.{Point}
use Rattle.view_story.specs.declared.seen.Stage.{Stage}
use Rattle.view_story.specs.declared.seen.Stage.TheVariants as stages
use Rattle.view_story.specs.declared.seen.TimerSeen.{TimerSeen}
use Rattle.view_story.specs.Sight.{StorySight}
use Rattle.view_story.specs.Seen.{absent_cpu, fresh_timer, up}
use Rattle.view_story.specs.Closing.{control_fault, end_fault, handed_fault, learned_control}
use Rattle.view_story.specs.Closing.{learned_handed, learned_left, learned_moved, left_fault}
use Rattle.view_story.specs.Closing.{moved_fault, settled}
use Rattle.view_story.specs.Covers.{cover_fault, learned_cover}
use Rattle.view_story.specs.Moments.{gone_to, is_at, leave_fault, time_fault}
use Rattle.view_story.specs.Operations.{after_answer, answer_line_fault}
use Rattle.view_story.specs.Runs.{after_run, fault_or, run_line_fault}

-- the answer to an operation that a line shows, with its time and its CPU
abbrev pub answer_of_line : Line → Option (ℕ × CpuId × Answer)
answer_of_line (lines.Arm now cpu timer class wheel) =
    Some (now, cpu, answers.Armed timer class wheel)
answer_of_line (lines.Cancel now cpu timer home) = Some (now, cpu, answers.Cancelled timer home)
answer_of_line (lines.NotQueued now cpu timer) = Some (now, cpu, answers.NotQueued timer)
answer_of_line (lines.Idle now cpu until) = Some (now, cpu, answers.Idle until)
answer_of_line (lines.Stay now cpu first) = Some (now, cpu, answers.Stay first)
answer_of_line (lines.Wake now cpu) = Some (now, cpu, answers.Woke)
answer_of_line (lines.Offline now cpu) = Some (now, cpu, answers.WentOffline)
answer_of_line (lines.Online now cpu) = Some (now, cpu, answers.CameOnline)
answer_of_line (lines.Refused now cpu line number) = Some (now, cpu, answers.Refused line number)
answer_of_line (lines.RefusedQueued now cpu line number holder) =
    Some (now, cpu, answers.RefusedQueued line number holder)
answer_of_line line = None

-- .. as what a line tells
abbrev pub line_answer_told : Option (ℕ × CpuId × Answer) → Option (ℕ × Told)
line_answer_told None = None
line_answer_told (Some (now, cpu, answer)) = Some (now, tolds.Answered cpu answer)

-- a line with its time, by what it tells of an interrupt or an operation, if it does
abbrev pub told_of : Line → Option (ℕ × Told)
told_of (lines.Run now runner timer home wheel reply) = Some (
  now,
  tolds.Ran (record {
    runner = runner;
    timer = timer;
    home = home;
    wheel = wheel;
    reply = reply;
  }),
)
told_of (lines.Handed now cpu to) = Some (now, tolds.Handed cpu to)
told_of line = line_answer_told (answer_of_line line)

-- lines of interrupts and operations may come
abbrev pub is_telling : Stage → Bool
is_telling stages.Tellers = true
is_telling stages.Moves = false
is_telling stages.Covers = false
is_telling stages.Lefts = false
is_telling stages.Over = false

-- what is wrong with what a line tells
abbrev pub told_fault_by : Told → Script → StorySight → Option Fault
told_fault_by (tolds.Ran run) script s = run_line_fault script s run
told_fault_by (tolds.Answered cpu answer) script s = answer_line_fault script s cpu answer
told_fault_by (tolds.Handed cpu to) script s = handed_fault script s cpu to

-- .. in its moment
unfoldable pub told_moment_fault : Script → StorySight → Told → Option Fault
told_moment_fault script s told =
    if is_telling s.point.stage then told_fault_by told script s else Some faults.Order

-- what it tells
abbrev pub told_after_by : Told → Script → StorySight → (turn : ℕ) → StorySight
told_after_by (tolds.Ran run) script s turn = after_run script s run turn
told_after_by (tolds.Answered cpu answer) script s turn = after_answer script s cpu answer turn
told_after_by (tolds.Handed cpu to) script s turn = learned_handed s to

-- .. by a line
unfoldable pub told_after : Script → StorySight → Told → (turn : ℕ) → StorySight
told_after script s told turn = told_after_by told script s turn

-- the moved timer of a line
abbrev pub moved_line : (timer : TimerId) → (from to : CpuId) → (wheel : ℕ) → MovedLine
moved_line timer from to wheel =
    record { timer = timer; from = from; to = to; wheel = wheel }

-- what is wrong with a line that closes a moment
unfoldable pub closing_fault : Line → Script → StorySight → Option Fault
closing_fault (lines.Control now cpu) script s = control_fault script s cpu
closing_fault (lines.Moved now timer from to wheel) script s =
    moved_fault s (moved_line timer from to wheel)
closing_fault (lines.Cover now cpu wheel cover) script s = cover_fault script s cpu wheel cover
closing_fault line script s = Some faults.Foreign

-- what it tells
unfoldable pub closing_after : Line → StorySight → (turn : ℕ) → StorySight
closing_after (lines.Control now cpu) s turn = learned_control s cpu
closing_after (lines.Moved now timer from to wheel) s turn =
    learned_moved s (moved_line timer from to wheel) turn
closing_after (lines.Cover now cpu wheel cover) s turn = learned_cover s cpu cover
closing_after line s turn = s

-- the time of a line that closes a moment
abbrev pub closing_time : Line → Option ℕ
closing_time (lines.Control now cpu) = Some now
closing_time (lines.Moved now timer from to wheel) = Some now
closing_time (lines.Cover now cpu wheel cover) = Some now
closing_time line = None

-- what is missing before the first line behind the last moment
abbrev pub last_fault_by : Stage → Script → StorySight → Option Fault
last_fault_by stages.Tellers script s = leave_fault script s (up script.end)
last_fault_by stages.Moves script s = leave_fault script s (up script.end)
last_fault_by stages.Covers script s = leave_fault script s (up script.end)
last_fault_by stages.Lefts script s = None
last_fault_by stages.Over script s = Some faults.NotTheEnd

-- by where the lines stand
unfoldable pub last_fault : Script → StorySight → Option Fault
last_fault script s = last_fault_by s.point.stage script s

-- the last moment is closed
unfoldable pub after_last : StorySight → StorySight
after_last s = record s { point = record s.point { stage = stages.Lefts } }

-- all is told
unfoldable pub ended : StorySight → StorySight
ended s = record s { point = record s.point { stage = stages.Over } }

-- what is wrong with a line behind the last moment
unfoldable pub behind_fault : Line → Script → StorySight → Option Fault
behind_fault (lines.Left timer cpu class wheel) script s =
    fault_or (last_fault script (settled s))
    (left_fault (after_last (settled s)) timer cpu class wheel)
behind_fault (lines.End now) script s =
    fault_or (last_fault script (settled s)) (end_fault script (after_last (settled s)) now)
behind_fault line script s = Some faults.Foreign

-- what it tells
unfoldable pub behind_after : Line → StorySight → StorySight
behind_after (lines.Left timer cpu class wheel) s = learned_left (after_last (settled s)) timer
behind_after (lines.End now) s = ended (after_last (settled s))
behind_after line s = s

-- settled where the lines leave the moment
unfoldable pub left_for : StorySight → (at : ℕ) → StorySight
left_for s at = if at == s.point.time then s else settled s

-- the moment of a line
unfoldable pub come_to : Script → StorySight → (at : ℕ) → StorySight
come_to script s at = gone_to script (left_for s at) at

-- what is wrong with a line of a moment
abbrev pub moment_fault : Script → StorySight → Option (ℕ × Told) → (closing : Option ℕ) → Line
    → Option Fault
moment_fault script s (Some (at, told)) closing line =
    fault_or (time_fault script (left_for s at) at)
    (told_moment_fault script (come_to script s at) told)
moment_fault script s None (Some at) line =
    fault_or (time_fault script (left_for s at) at)
    (closing_fault line script (settled (come_to script s at)))
moment_fault script s None None line = behind_fault line script s

-- WHAT IS WRONG WITH A LINE, by what was told before it
unfoldable pub line_fault : Script → StorySight → Line → Option Fault
line_fault script s line = moment_fault script s (told_of line) (closing_time line) line

-- what a line of a moment tells
abbrev pub moment_after : Script → StorySight → Option (ℕ × Told) → (closing : Option ℕ) → Line
    → (turn : ℕ) → StorySight
moment_after script s (Some (at, told)) closing line turn =
    told_after script (come_to script s at) told turn
moment_after script s None (Some at) line turn =
    closing_after line (settled (come_to script s at)) turn
moment_after script s None None line turn = behind_after line s

-- WHAT A LINE TELLS
unfoldable pub line_after : Script → StorySight → Line → (turn : ℕ) → StorySight
line_after script s line turn =
    moment_after script s (told_of line) (closing_time line) line turn

-- each CPU is active at the start
abbrev pub active_cpu : CpuId → CpuSeen
active_cpu cpu = record (absent_cpu cpu) {
  state = record { online = true; idle = false };
  before = record { online = true; idle = false };
}

-- the timers of a script, of which nothing was told
abbrev pub fresh_timers : (count : ℕ) → List TimerSeen
fresh_timers count = map (λ n. fresh_timer (record { 0 = n })) (range_with_len 0 count)

-- the CPUs of a script as they start
abbrev pub fresh_cpus : (count : ℕ) → List CpuSeen
fresh_cpus count = map (λ n. active_cpu (record { 0 = n })) (range_with_len 0 count)

-- the point at the first moment, jiffy 0
unfoldable pub first_point : Script → (play : Bool) → Point
first_point script play = record {
  play = play;
  time = 0;
  listed = is_at 0 (slice_get script.moments 0);
  next = if is_at 0 (slice_get script.moments 0) then 1 else 0;
  stage = stages.Tellers;
  answered_cpu = record { 0 = 0 };
  answered = 0;
  runner = None;
  rank = 0;
  leaving = None;
  dead = None;
  handed = None;
  control = None;
  moved_rank = 0;
  moved_turn = 0;
  covered = 0;
  left = 0;
  unclear = 0;
  runs = 0;
}

-- BEFORE THE FIRST LINE each CPU is active, and no timer is queued
abbrev pub start : Script → (play : Bool) → StorySight
start script play = record {
  timers = fresh_timers script.timers;
  cpus = fresh_cpus (script.nodes * script.cpus);
  point = first_point script play;
}

-- all is told
abbrev pub is_over : Stage → Bool
is_over stages.Over = true
is_over stages.Tellers = false
is_over stages.Moves = false
is_over stages.Covers = false
is_over stages.Lefts = false

-- what is said behind so many lines
abbrev pub ending : StorySight → (lines : ℕ) → Verdict
ending s count =
    if is_over s.point.stage then verdicts.Fits count s.point.runs
    else verdicts.Misfit (up count) faults.Unended

-- the line of this number breaks a clause, or what is said of those behind it
abbrev pub story_verdict_or : Option Fault → (line : ℕ) → Verdict → Verdict
story_verdict_or None line later = later
story_verdict_or (Some fault) line later = verdicts.Misfit line fault

-- WHAT IS SAID of lines, behind so many others
abbrev pub story_judged : Script → StorySight → (count : ℕ) → List Line → Verdict
story_judged script s count [] = ending s count
story_judged script s count (l ∷ ls) =
    story_verdict_or (line_fault script s l) (up count)
    (story_judged script (line_after script s l (up count)) (up count) ls)

-- EACH LINE FITS, by what was told before it, and the last ends the run
abbrev pub EachStoryLineFits : Script → StorySight → (count : ℕ) → List Line → Type 0
EachStoryLineFits script s count [] = is_over s.point.stage ≡ true
EachStoryLineFits script s count (l ∷ ls) =
    (line_fault script s l ≡ None)
    × EachStoryLineFits script (line_after script s l (up count)) (up count) ls

-- the verdict of a report that can be a story
abbrev pub IsFittingStory : Verdict → Type 0
IsFittingStory (verdicts.Fits lines runs) = Unit {0}
IsFittingStory (verdicts.Misfit line fault) = ⊥

-- THE FIRST LINE AT FAULT: this line, of this number, is the first that doesn't fit, and this is
-- what is wrong with it; or each fits and the run goes on behind the last
abbrev pub IsFirstLineAt : Script → StorySight → (count : ℕ) → List Line → (line : ℕ) → Fault
    → Type 0
IsFirstLineAt script s count [] line fault =
    (is_over s.point.stage ≡ false) × (line ≡ up count) × (fault ≡ faults.Unended)
IsFirstLineAt script s count (l ∷ ls) line fault =
    ((line_fault script s l ≡ Some fault) × (line ≡ up count))
    ⊎ ((line_fault script s l ≡ None)
    × IsFirstLineAt script (line_after script s l (up count)) (up count) ls line fault)

-- of a verdict that isn't a fit
abbrev pub IsFirstFault : Script → StorySight → List Line → Verdict → Type 0
IsFirstFault script s ls (verdicts.Fits lines runs) = Unit {0}
IsFirstFault script s ls (verdicts.Misfit line fault) = IsFirstLineAt script s 0 ls line fault
