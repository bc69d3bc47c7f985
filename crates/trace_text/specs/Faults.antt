-- the first fault of a text that isn't a trace
use Rattle.std.specs.Prelude.{ℕ, ◌*◌, List, [], ◌∷◌, ◌++◌, codes, Option, Some, None}
use Rattle.std.specs.Prelude.{Result, Ok, Err, slice_index_or, if◌then◌else◌}
use Rattle.std.specs.List.{flat_map, join_with_byte}
use Rattle.std.specs.Str.{bytes_eq}
use Rattle.text_words.specs.Numbers.{value_of}
use Rattle.text_words.specs.Words.{ended, lines_of, words_of}
use Rattle.tm_script.specs.declared.faults.Kind.TheVariants.{BadLine, NoEnd}
use Rattle.tm_script.specs.declared.faults.ScriptFault.{ScriptFault}
use Rattle.tm_script.specs.Faults.{fault_of}
use Rattle.trace_text.specs.declared.traces.TraceLine.{TraceLine}
use Rattle.trace_text.specs.declared.words.Limits.{Limits}
use Rattle.trace_text.specs.Reading.{lines_from, trace_fault_at, unended_trace}

-- the script of version 2 whose machine has these lines, and in which nothing happens
abbrev pub machine_text : List (List ℕ) → List ℕ
machine_text lines = flat_map ended (codes "tmig 2" ∷ (lines ++ codes "end 0" ∷ []))

-- the script of version 2 that goes on with these parts of a text, the last of which isn't ended
abbrev pub machine_front : List (List ℕ) → List ℕ
machine_front parts = join_with_byte 10 (codes "tmig 2" ∷ parts)

-- the number behind the first word of a line
abbrev pub number_behind : List ℕ → ℕ
number_behind line = value_of (slice_index_or (words_of line) 1 [])

-- the limits by the lines of the nodes, the CPUs and the timers
abbrev pub limits_by : (nodes cpus timers : List ℕ) → Limits
limits_by nodes cpus timers = record {
  cpus = number_behind nodes * number_behind cpus;
  timers = number_behind timers;
}

-- the fault that reading tells, if it does
abbrev pub trace_fault_told : Result (List TraceLine) ScriptFault → Option ScriptFault
trace_fault_told (Ok ls) = None
trace_fault_told (Err fault) = Some fault

-- of two faults the one that comes first
abbrev pub first_fault : Option ScriptFault → Option ScriptFault → Option ScriptFault
first_fault None later = later
first_fault (Some fault) later = Some fault

-- The number of the first line behind those of the machine.
abbrev pub first_trace_line : ℕ
first_trace_line = 6

-- Behind the first line: the lines of the machine have the faults of a script of version 2. Then
-- come those of the steps.
abbrev pub fault_behind : List (List ℕ) → Option ScriptFault
fault_behind (nodes ∷ cpus ∷ timers ∷ isolated ∷ next ∷ more) =
    first_fault (fault_of (machine_text (nodes ∷ cpus ∷ timers ∷ isolated ∷ [])))
    (trace_fault_told (lines_from (limits_by nodes cpus timers) first_trace_line (next ∷ more)))
fault_behind parts = fault_of (machine_front parts)

-- the first fault of these parts of a text, the last of which isn't ended
abbrev pub fault_among : List (List ℕ) → Option ScriptFault
fault_among [] = Some (trace_fault_at 1 NoEnd)
fault_among (rest ∷ []) = Some (unended_trace 1 rest)
fault_among (first ∷ next ∷ more) =
    if bytes_eq first (codes "trace 1") then fault_behind (next ∷ more)
    else Some (trace_fault_at 1 BadLine)

-- THE FIRST FAULT of a text
abbrev pub trace_fault : List ℕ → Option ScriptFault
trace_fault bytes = fault_among (lines_of bytes)
