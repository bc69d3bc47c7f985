-- what the program writes
use Rattle.std.specs.Prelude.{ℕ, List, ◌++◌, codes}
use Rattle.std.specs.Fmt.{decimal}
use Rattle.report_reader.specs.declared.faults.Kind.{Kind}
use Rattle.report_reader.specs.declared.faults.Kind.TheVariants as causes
use Rattle.report_reader.specs.declared.faults.ReportFault.{ReportFault}
use Rattle.tm_script.specs.declared.faults.Kind.{Kind as ScriptKind}
use Rattle.tm_script.specs.declared.faults.Kind.TheVariants as kinds
use Rattle.tm_script.specs.declared.faults.ScriptFault.{ScriptFault}
use Rattle.view_story.specs.declared.faults.Clause.{Clause}
use Rattle.view_story.specs.declared.faults.Clause.TheVariants as clauses
use Rattle.view_story.specs.declared.faults.Fault.{Fault}
use Rattle.view_story.specs.declared.faults.Fault.TheVariants as faults
use Rattle.view_story.specs.declared.judge.Verdict.{Verdict}
use Rattle.view_story.specs.declared.judge.Verdict.TheVariants as verdicts
use Rattle.view_story.specs.Faults.{clause_of}

-- the name of a clause
abbrev pub clause_text : Clause → List ℕ
clause_text clauses.Moments = codes ": Moments: "
clause_text clauses.Journals = codes ": Journals: "
clause_text clauses.Runs = codes ": Runs: "
clause_text clauses.Operations = codes ": Operations: "
clause_text clauses.Refusals = codes ": Refusals: "
clause_text clauses.Idle = codes ": Idle: "
clause_text clauses.Close = codes ": Close: "
clause_text clauses.Order = codes ": Order: "

-- what is wrong, in a sentence
abbrev pub story_fault_text : Fault → List ℕ
story_fault_text faults.Foreign = codes "no run prints such a line\n"
story_fault_text faults.BackInTime = codes "its time is before that of the line above\n"
story_fault_text faults.NoMoment = codes "there is no moment at its time\n"
story_fault_text faults.NotTheEnd = codes "the run ends elsewhere\n"
story_fault_text faults.Unended = codes "the report ends before the run\n"
story_fault_text faults.Skipped = codes "an operation of the script has no answer before it\n"
story_fault_text faults.NoOperation = codes "it answers no operation that comes next for its CPU\n"
story_fault_text faults.StillQueued = codes "the timer is queued\n"
story_fault_text faults.NotQueuedThere = codes "the timer isn't queued on that CPU\n"
story_fault_text faults.MustRefuse = codes "the state of its CPU refuses the operation\n"
story_fault_text faults.MayNotRefuse =
    codes "the state of its CPU doesn't refuse the operation so\n"
story_fault_text faults.Wheel = codes "the timer wheel gives another expiry\n"
story_fault_text faults.Turn = codes "another timer comes before it\n"
story_fault_text faults.NotQueuedSo = codes "the timer isn't queued there with that expiry\n"
story_fault_text faults.Early = codes "the timer isn't due\n"
story_fault_text faults.NoInterrupt = codes "the CPU that runs it has no interrupt\n"
story_fault_text faults.NotForRunner = codes "that CPU may not run the timer\n"
story_fault_text faults.Reply = codes "the job of the timer replies otherwise\n"
story_fault_text faults.Missed = codes "a timer that was due has not run before it\n"
story_fault_text faults.First = codes "the first event of its CPU is another one\n"
story_fault_text faults.Soon = codes "its CPU has an event within a jiffy, and so doesn't go idle\n"
story_fault_text faults.Late = codes "the first event of its CPU is more than a jiffy ahead\n"
story_fault_text faults.Wakeup = codes "the wakeup isn't that of its CPU's first events\n"
story_fault_text faults.Uncovered = codes "an idle CPU has no cover before it\n"
story_fault_text faults.NoCover = codes "its CPU has no cover here\n"
story_fault_text faults.Answer = codes "who it names doesn't answer for the first global timer\n"
story_fault_text faults.Control = codes "it names another CPU than the one that takes over\n"
story_fault_text faults.Moved = codes "no such timer moves there\n"
story_fault_text faults.Unmoved =
    codes "a timer of a CPU that went offline has not moved before it\n"
story_fault_text faults.Left = codes "no such timer is left\n"
story_fault_text faults.Untold = codes "a timer that is left isn't told before it\n"
story_fault_text faults.Order = codes "it stands at another place in its moment\n"

-- what is wrong with a line of a script
abbrev pub script_kind_text : ScriptKind → List ℕ
script_kind_text kinds.BadLine = codes ": no such line may stand here\n"
script_kind_text kinds.BadNumber = codes ": a number is spelled wrong\n"
script_kind_text kinds.OutOfRange = codes ": a number is out of its range\n"
script_kind_text kinds.OutOfOrder = codes ": its place or its numbers don't ascend\n"
script_kind_text kinds.NoEnd = codes ": the end is missing\n"
script_kind_text kinds.TooManyLines = codes ": there are too many lines\n"

-- what is wrong with a line of a report
abbrev pub report_kind_text : Kind → List ℕ
report_kind_text causes.UnknownName = codes ": no line has this name\n"
report_kind_text causes.WrongWords = codes ": these are not the words of such a line\n"
report_kind_text causes.NoLineFeed = codes ": no line feed ends it\n"

-- a line that can't stand where it does: its number, the clause, and what is wrong
unfoldable pub misfit_text : (line : ℕ) → Fault → List ℕ
misfit_text line fault =
    codes "line " ++ (decimal line ++ (clause_text (clause_of fault) ++ story_fault_text fault))

-- a report that can be a story
unfoldable pub story_fits_text : (lines runs : ℕ) → List ℕ
story_fits_text lines runs =
    codes "story: fits, "
    ++ (decimal lines ++ (codes " lines, " ++ (decimal runs ++ codes " runs\n")))

-- WHAT IS WRITTEN of a report
abbrev pub story_verdict_text : Verdict → List ℕ
story_verdict_text (verdicts.Fits lines runs) = story_fits_text lines runs
story_verdict_text (verdicts.Misfit line fault) = misfit_text line fault

-- the text where there is no script
unfoldable pub script_refused : ScriptFault → List ℕ
script_refused fault =
    codes "script refused line " ++ (decimal fault.line ++ script_kind_text fault.kind)

-- the text where there is no report
unfoldable pub report_refused : ReportFault → List ℕ
report_refused fault =
    codes "report refused line " ++ (decimal fault.line ++ report_kind_text fault.kind)

-- .. where the words are none that the program knows
abbrev pub usage_text : List ℕ
usage_text = codes "usage: tmigstory [play] < SCRIPT-AND-REPORT\n"

-- .. where the source failed
abbrev pub read_fault_text : List ℕ
read_fault_text = codes "tmigstory: the input could not be read\n"

-- .. where it has too many bytes
abbrev pub too_long_text : List ℕ
too_long_text = codes "tmigstory: the input has more than 67108864 bytes\n"
