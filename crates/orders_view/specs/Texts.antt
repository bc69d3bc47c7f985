-- what is written besides ends and orders
use Rattle.std.specs.Prelude.{ℕ, List, ◌++◌, codes}
use Rattle.std.specs.Fmt.{decimal}
use Rattle.tm_script.specs.declared.faults.Kind.{Kind}
use Rattle.tm_script.specs.declared.faults.Kind.TheVariants as kinds
use Rattle.tm_script.specs.declared.faults.ScriptFault.{ScriptFault}

-- the text where there are more steps than a trace may have
abbrev pub too_many_line : List ℕ
too_many_line = codes "tmigview: there are more steps than a trace may have\n"

-- .. where the search is at fault
abbrev pub fault_line : List ℕ
fault_line =
    codes "tmigview: the search is at fault, a step that it found couldn't be followed\n"

-- what is wrong with a line of a case: its kind by number, and in words
abbrev pub kind_text : Kind → List ℕ
kind_text kinds.BadLine = codes " kind 1: no such line may stand here\n"
kind_text kinds.BadNumber = codes " kind 2: a number is spelled wrong\n"
kind_text kinds.OutOfRange = codes " kind 3: a number is out of its range\n"
kind_text kinds.OutOfOrder = codes " kind 4: the numbers don't ascend\n"
kind_text kinds.NoEnd = codes " kind 5: the end is missing\n"
kind_text kinds.TooManyLines = codes " kind 6: there are too many lines\n"

-- the text where the input is no case
unfoldable pub case_text : ScriptFault → List ℕ
case_text fault = codes "case refused line " ++ (decimal fault.line ++ kind_text fault.kind)

-- .. where the step on this line, in front of the threads, can't be made
unfoldable pub stuck_text : (line : ℕ) → (cause : List ℕ) → List ℕ
stuck_text line cause =
    codes "case stuck line " ++ (decimal line ++ (codes ": " ++ (cause ++ codes "\n")))

-- .. where no end has this number, but there are so many
unfoldable pub no_end_text : (number count : ℕ) → List ℕ
no_end_text number count =
    codes "no end " ++ (decimal number ++ (codes ": ends " ++ (decimal count ++ codes "\n")))
