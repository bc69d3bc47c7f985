-- what the lines of a trace say, or the first fault among them
use Rattle.std.specs.Prelude.{ℕ, zero, suc, ◌+◌, List, [], ◌∷◌, codes, find, Option, Some}
use Rattle.std.specs.Prelude.{None, Result, Ok, Err, nat_le, nat_lt, if◌then◌else◌}
use Rattle.std.specs.Str.{bytes_eq}
use Rattle.text_words.specs.Numbers.{is_number, value_of}
use Rattle.text_words.specs.Words.{words_of}
use Rattle.tm_base.specs.declared.names.Class.{Class}
use Rattle.tm_base.specs.declared.names.Class.TheVariants.{Pinned, Global, Deferrable}
use Rattle.tm_base.specs.declared.names.CpuId.{CpuId}
use Rattle.tm_base.specs.declared.names.TimerId.{TimerId}
use Rattle.tm_base.specs.declared.limits.TheConstants.{MOST_LINES}
use Rattle.tm_script.specs.declared.faults.Kind.{Kind}
use Rattle.tm_script.specs.declared.faults.Kind.TheVariants.{BadLine, BadNumber, OutOfRange, NoEnd}
use Rattle.tm_script.specs.declared.faults.Kind.TheVariants.{TooManyLines}
use Rattle.tm_script.specs.declared.faults.ScriptFault.{ScriptFault}
use Rattle.core_world.specs.declared.step.Step.TheVariants as steps
use Rattle.trace_text.specs.declared.traces.TraceLine.{TraceLine}
use Rattle.trace_text.specs.declared.traces.TraceLine.TheVariants as lines
use Rattle.trace_text.specs.declared.words.Limits.{Limits}
use Rattle.trace_text.specs.declared.words.Command.{Command}
use Rattle.trace_text.specs.declared.words.Command.TheVariants as commands
use Rattle.trace_text.specs.declared.words.Slot.{Slot}
use Rattle.trace_text.specs.declared.words.Slot.TheVariants as slots
use Rattle.trace_text.specs.declared.words.Field.{Field}
use Rattle.trace_text.specs.declared.words.Field.TheVariants as fields
use Rattle.trace_text.specs.Lines.{bound_of, field_slots_of, trace_word_of}

-- a step, and what follows it where it gave something
infixl 10 ◌>>=◌
-- what comes after an answer that is no fault
abbrev pub ◌>>=◌ : {A B E : Type 0} → Result A E → (A → Result B E) → Result B E
(Ok x) >>= f = f x
(Err e) >>= f = Err e

-- ---- fields

-- the number that a word spells, where it is below a bound
unfoldable pub number_below : (bound : ℕ) → List ℕ → Result ℕ Kind
number_below bound word =
    if is_number word
    then (if nat_lt (value_of word) bound then Ok (value_of word) else Err OutOfRange)
    else Err BadNumber

-- the class that a word names
unfoldable pub class_by : List ℕ → Result Class Kind
class_by word =
    if bytes_eq word (codes "pinned") then Ok Pinned
    else if bytes_eq word (codes "global") then Ok Global
    else if bytes_eq word (codes "deferrable") then Ok Deferrable
    else Err BadLine

-- what a word says at such a place
abbrev pub field_at : Limits → Slot → List ℕ → Result Field Kind
field_at l slots.Cpu word =
    number_below (bound_of l slots.Cpu) word >>= λ n. Ok (fields.Cpu (record { 0 = n }))
field_at l slots.Timer word =
    number_below (bound_of l slots.Timer) word >>= λ n. Ok (fields.Timer (record { 0 = n }))
field_at l slots.Class word = class_by word >>= λ class. Ok (fields.Class class)
field_at l slots.Time word =
    number_below (bound_of l slots.Time) word >>= λ n. Ok (fields.Time n)
field_at l slots.Job word =
    number_below (bound_of l slots.Job) word >>= λ n. Ok (fields.Job n)
field_at l slots.Arg word =
    number_below (bound_of l slots.Arg) word >>= λ n. Ok (fields.Arg n)
field_at l slots.Line word =
    number_below (bound_of l slots.Line) word >>= λ n. Ok (fields.Line n)

-- of two kinds of fault in one line the first in their order
abbrev pub first_trace_kind : Kind → Kind → Kind
first_trace_kind BadLine k = BadLine
first_trace_kind BadNumber BadLine = BadLine
first_trace_kind BadNumber k = BadNumber
first_trace_kind OutOfRange BadLine = BadLine
first_trace_kind OutOfRange BadNumber = BadNumber
first_trace_kind OutOfRange k = OutOfRange
first_trace_kind j k = k

-- a field and those behind it, or the first kind of fault
abbrev pub joined_fields : Result Field Kind → Result (List Field) Kind → Result (List Field) Kind
joined_fields (Ok f) (Ok fs) = Ok (f ∷ fs)
joined_fields (Ok f) (Err k) = Err k
joined_fields (Err j) (Ok fs) = Err j
joined_fields (Err j) (Err k) = Err (first_trace_kind j k)

-- what words say at these places, or the first kind of fault that they have; there is a word for
-- each place
unfoldable pub fields_of : Limits → List Slot → List (List ℕ) → Result (List Field) Kind
fields_of l [] [] = Ok []
fields_of l [] (w ∷ ws) = Err BadLine
fields_of l (s ∷ ss) [] = Err BadLine
fields_of l (s ∷ ss) (w ∷ ws) = joined_fields (field_at l s w) (fields_of l ss ws)

-- ---- lines

-- a field of a list, and one that stands in where there is none
abbrev pub head_field : List Field → Field
head_field [] = fields.Cpu (record { 0 = 0 })
head_field (f ∷ fs) = f

-- the fields behind the first
abbrev pub rest_fields : List Field → List Field
rest_fields [] = []
rest_fields (f ∷ fs) = fs

-- the field at a place
abbrev pub field_of : List Field → ℕ → Field
field_of fs zero = head_field fs
field_of fs (suc i) = field_of (rest_fields fs) i

-- a field as a CPU
abbrev pub cpu_by : Field → CpuId
cpu_by (fields.Cpu x) = x
cpu_by _ = record { 0 = 0 }

-- .. as a timer
abbrev pub timer_by : Field → TimerId
timer_by (fields.Timer x) = x
timer_by _ = record { 0 = 0 }

-- .. as a class
abbrev pub class_in_field : Field → Class
class_in_field (fields.Class x) = x
class_in_field _ = Global

-- .. as a time, in jiffies
abbrev pub time_by : Field → ℕ
time_by (fields.Time x) = x
time_by _ = 0

-- .. as the number of a job
abbrev pub job_by : Field → ℕ
job_by (fields.Job x) = x
job_by _ = 0

-- .. as a job's argument
abbrev pub arg_by : Field → ℕ
arg_by (fields.Arg x) = x
arg_by _ = 0

-- .. as the number of a line
abbrev pub line_in_field : Field → ℕ
line_in_field (fields.Line x) = x
line_in_field _ = 0

-- what a line of this first word and these fields says; None is the end of the trace
abbrev pub trace_said_by : Command → List Field → Option TraceLine
trace_said_by commands.Clock fs = Some (lines.Do (steps.Clock (time_by (field_of fs 0))))
trace_said_by commands.Enter fs = Some (lines.Do (steps.Enter (cpu_by (field_of fs 0))))
trace_said_by commands.Leave fs = Some (lines.Do (steps.Leave (cpu_by (field_of fs 0))))
trace_said_by commands.Arm fs =
    Some (lines.Do (steps.Arm (cpu_by (field_of fs 0)) (timer_by (field_of fs 1))
    (class_in_field (field_of fs 2)) (time_by (field_of fs 3)) (job_by (field_of fs 4))
    (arg_by (field_of fs 5)) (line_in_field (field_of fs 6))))
trace_said_by commands.Cancel fs =
    Some (lines.Do (steps.Cancel (cpu_by (field_of fs 0)) (timer_by (field_of fs 1))
    (cpu_by (field_of fs 2)) (line_in_field (field_of fs 3))))
trace_said_by commands.Hand fs =
    Some (lines.Do (steps.Hand (cpu_by (field_of fs 0)) (timer_by (field_of fs 1))
    (cpu_by (field_of fs 2))))
trace_said_by commands.Ticked fs =
    Some (lines.Do (steps.Ticked (cpu_by (field_of fs 0)) (class_in_field (field_of fs 1))
    (cpu_by (field_of fs 2))))
trace_said_by commands.Move fs =
    Some (lines.Do (steps.Move (cpu_by (field_of fs 0)) (cpu_by (field_of fs 1))
    (timer_by (field_of fs 2))))
trace_said_by commands.Idle fs = Some (lines.Do (steps.Idle (cpu_by (field_of fs 0))))
trace_said_by commands.Wake fs = Some (lines.Do (steps.Wake (cpu_by (field_of fs 0))))
trace_said_by commands.Offline fs = Some (lines.Do (steps.Offline (cpu_by (field_of fs 0))))
trace_said_by commands.Online fs = Some (lines.Do (steps.Online (cpu_by (field_of fs 0))))
trace_said_by commands.Reeval fs = Some (lines.Do (steps.Reeval (cpu_by (field_of fs 0))))
trace_said_by commands.Take fs =
    Some (lines.Do (steps.Take (cpu_by (field_of fs 0)) (cpu_by (field_of fs 1))))
trace_said_by commands.Carry fs = Some (lines.Do (steps.Carry (cpu_by (field_of fs 0))))
trace_said_by commands.Release fs = Some (lines.Do (steps.Release (cpu_by (field_of fs 0))))
trace_said_by commands.Walk fs = Some (lines.Do (steps.Walk (cpu_by (field_of fs 0))))
trace_said_by commands.HandOn fs =
    Some (lines.Do (steps.HandOn (cpu_by (field_of fs 0)) (cpu_by (field_of fs 1))))
trace_said_by commands.Why fs = Some (lines.Why (cpu_by (field_of fs 0)) (timer_by (field_of fs 1)))
trace_said_by commands.End fs = None

-- the first words, of which the later ones are
abbrev pub later_commands : List Command
later_commands =
    commands.Offline ∷ commands.Online ∷ commands.Reeval ∷ commands.Take ∷ commands.Carry
    ∷ commands.Release ∷ commands.Walk ∷ commands.HandOn ∷ commands.Why ∷ commands.End ∷ []

-- all first words
abbrev pub all_trace_commands : List Command
all_trace_commands =
    commands.Clock ∷ commands.Enter ∷ commands.Leave ∷ commands.Arm ∷ commands.Cancel
    ∷ commands.Hand ∷ commands.Ticked ∷ commands.Move ∷ commands.Idle ∷ commands.Wake
    ∷ later_commands

-- the first word that is spelled so
unfoldable pub later_command : List ℕ → Option Command
later_command word = find (λ command. bytes_eq word (trace_word_of command)) later_commands

-- the command of a first word
unfoldable pub command_for : List ℕ → Option Command
command_for word = find (λ command. bytes_eq word (trace_word_of command)) all_trace_commands

-- what a command says by its fields, if they have no fault
abbrev pub trace_said_or : Command → Result (List Field) Kind → Result (Option TraceLine) Kind
trace_said_or command (Err kind) = Err kind
trace_said_or command (Ok fs) = Ok (trace_said_by command fs)

-- what the words behind a first word say
unfoldable pub said_in_trace : Limits → Option Command → List (List ℕ) →
    Result (Option TraceLine) Kind
said_in_trace l None words = Err BadLine
said_in_trace l (Some command) words =
    trace_said_or command (fields_of l (field_slots_of command) words)

-- a line past the last that there may be has the last kind of fault
abbrev pub trace_in_room : (line : ℕ) → Result (Option TraceLine) Kind
    → Result (Option TraceLine) Kind
trace_in_room line (Err kind) = Err kind
trace_in_room line (Ok said) = if nat_le line MOST_LINES then Ok said else Err TooManyLines

-- what line number `line` says, by its words, or the first kind of fault that it has
unfoldable pub line_heard : Limits → (line : ℕ) → List (List ℕ) → Result (Option TraceLine) Kind
line_heard l line [] = Err BadLine
line_heard l line (first ∷ behind) = trace_in_room line (said_in_trace l (command_for first) behind)

-- ---- the lines

-- a fault of this line
abbrev pub trace_fault_at : (line : ℕ) → Kind → ScriptFault
trace_fault_at line kind = record { line = line; kind = kind }

-- where no line feed follows: a further line is missing, or the line isn't ended
abbrev pub unended_trace : (line : ℕ) → List ℕ → ScriptFault
unended_trace line [] = trace_fault_at line NoEnd
unended_trace line (b ∷ bs) = trace_fault_at line BadLine

-- nothing stands behind the end
abbrev pub trace_closing : (line : ℕ) → List (List ℕ) → Result (List TraceLine) ScriptFault
trace_closing line ([] ∷ []) = Ok []
trace_closing line _ = Err (trace_fault_at line BadLine)

-- a line in front of those that follow
abbrev pub with_line : TraceLine → Result (List TraceLine) ScriptFault →
    Result (List TraceLine) ScriptFault
with_line line (Ok ls) = Ok (line ∷ ls)
with_line line (Err fault) = Err fault

-- reading goes on behind a line, ends, or stops at its fault
abbrev pub trace_read_on : (line : ℕ) → Result (Option TraceLine) Kind →
    (closed rest : Result (List TraceLine) ScriptFault) → Result (List TraceLine) ScriptFault
trace_read_on line (Err kind) closed rest = Err (trace_fault_at line kind)
trace_read_on line (Ok None) closed rest = closed
trace_read_on line (Ok (Some said)) closed rest = with_line said rest

-- What these parts of a text say, from line number `line` up to the end, or the first fault. The
-- last part is what stands behind the last line feed.
unfoldable pub lines_from : Limits → (line : ℕ) → List (List ℕ) →
    Result (List TraceLine) ScriptFault
lines_from l line [] = Err (trace_fault_at line NoEnd)
lines_from l line (rest ∷ []) = Err (unended_trace line rest)
lines_from l line (words ∷ next ∷ more) =
    trace_read_on line (line_heard l line (words_of words)) (trace_closing (line + 1) (next ∷ more))
    (lines_from l (line + 1) (next ∷ more))
