-- what is told of an input that can't be read
use Rattle.std.specs.Prelude.{ℕ, List, [], ◌++◌, codes}
use Rattle.std.specs.Fmt.{decimal}
use Rattle.report_reader.specs.declared.faults.Kind.{Kind}
use Rattle.report_reader.specs.declared.faults.Kind.TheVariants as causes
use Rattle.report_reader.specs.declared.faults.ReportFault.{ReportFault}
use Rattle.tm_script.specs.declared.faults.Kind.{Kind as FaultKind}
use Rattle.tm_script.specs.declared.faults.Kind.TheVariants as kinds
use Rattle.tm_script.specs.declared.faults.ScriptFault.{ScriptFault}
use Rattle.view_hints.specs.Hints.{script_hint, steps_hint}

-- what is wrong with a line of a report
abbrev pub cause_text : Kind → List ℕ
cause_text causes.UnknownName = codes ": no line has this name\n"
cause_text causes.WrongWords = codes ": these are not the words of such a line\n"
cause_text causes.NoLineFeed = codes ": no line feed ends it\n"

-- the text where the input is no report: the line at fault, and what is wrong with it
unfoldable pub report_text : ReportFault → List ℕ
report_text fault =
    codes "report refused line " ++ (decimal fault.line ++ cause_text fault.kind)

-- the text where a line of a report goes back in time
unfoldable pub back_text : (number : ℕ) → List ℕ
back_text number =
    codes "report refused line " ++ (decimal number ++ codes ": it goes back in time\n")

-- what is wrong with a line of a trace of steps: its kind by number, and in words
abbrev pub kind_text : FaultKind → List ℕ
kind_text kinds.BadLine = codes " kind 1: no such line may stand here\n"
kind_text kinds.BadNumber = codes " kind 2: a number is spelled wrong\n"
kind_text kinds.OutOfRange = codes " kind 3: a number is out of its range\n"
kind_text kinds.OutOfOrder = codes " kind 4: the numbers don't ascend\n"
kind_text kinds.NoEnd = codes " kind 5: the end is missing\n"
kind_text kinds.TooManyLines = codes " kind 6: there are too many lines\n"

-- what is said of a line at fault besides; where there are too many lines nothing may stand there
abbrev pub hint_for : FaultKind → (hint : List ℕ) → List ℕ
hint_for kinds.TooManyLines hint = []
hint_for kind hint = hint

-- the text where the input is no script: the line at fault and its kind, and below it the line
-- itself and what may stand there
unfoldable pub script_text : (bytes : List ℕ) → ScriptFault → List ℕ
script_text bytes fault =
    codes "script refused line " ++ (decimal fault.line
    ++ (kind_text fault.kind ++ hint_for fault.kind (script_hint bytes fault.line)))

-- the text where the input is no trace of steps
unfoldable pub steps_text : (bytes : List ℕ) → ScriptFault → List ℕ
steps_text bytes fault =
    codes "trace refused line " ++ (decimal fault.line
    ++ (kind_text fault.kind ++ hint_for fault.kind (steps_hint bytes fault.line)))
