-- the texts that the program writes beside outputs
use Rattle.std.specs.Prelude.{ℕ, List, ◌++◌, codes}
use Rattle.std.specs.Fmt.{decimal}
use Rattle.tm_script.specs.declared.faults.Kind.{Kind}
use Rattle.tm_script.specs.declared.faults.Kind.TheVariants.{BadLine, BadNumber, OutOfRange}
use Rattle.tm_script.specs.declared.faults.Kind.TheVariants.{OutOfOrder, NoEnd, TooManyLines}
use Rattle.tm_script.specs.declared.faults.ScriptFault.{ScriptFault}
use Rattle.program_texts.specs.declared.inputs.Form.{Form}
use Rattle.program_texts.specs.declared.inputs.Form.TheVariants as forms

-- the text of status 2
abbrev pub program_usage_text : List ℕ
program_usage_text =
    codes "usage: tmig play | run | tree | generate NUMBER CPUS TIMERS MOMENTS"
    ++ codes " | day NUMBER CPUS TIMERS MOMENTS | check | deep | works\n"

-- the text of status 3
abbrev pub program_read_fault_text : List ℕ
program_read_fault_text = codes "read fault\n"

-- the text of status 7
abbrev pub program_too_long_text : List ℕ
program_too_long_text = codes "input too long\n"

-- the number of a kind of fault
abbrev pub kind_number : Kind → ℕ
kind_number BadLine = 1
kind_number BadNumber = 2
kind_number OutOfRange = 3
kind_number OutOfOrder = 4
kind_number NoEnd = 5
kind_number TooManyLines = 6

-- what a refusal calls an input of this form
abbrev pub form_name : Form → List ℕ
form_name forms.Script = codes "script"
form_name forms.Trace = codes "trace"
form_name forms.Works = codes "works"

-- the text of statuses 1, 10 and 11: what was to be read, the line at fault, and the kind of the
-- fault
abbrev pub refused_input_text : Form → ScriptFault → List ℕ
refused_input_text form fault =
    form_name form ++ codes " refused line " ++ decimal fault.line
    ++ codes " kind " ++ decimal (kind_number fault.kind) ++ codes "\n"

-- the text of status 8: the line, and the job that it names
abbrev pub job_unknown_text : (line job : ℕ) → List ℕ
job_unknown_text line job =
    codes "job unknown line " ++ decimal line ++ codes " job " ++ decimal job ++ codes "\n"

-- the text of status 6: the work that was enough
abbrev pub work_spent_text : (count : ℕ) → List ℕ
work_spent_text count = codes "work spent " ++ decimal count ++ codes "\n"
