-- what a text says as a script of works, or its first fault
use Rattle.std.specs.Prelude.{ℕ, List, [], ◌∷◌, codes, Option, Some, None, Result, Ok, Err}
use Rattle.std.specs.Prelude.{if◌then◌else◌}
use Rattle.std.specs.Str.{bytes_eq}
use Rattle.text_words.specs.Words.{lines_of, words_of}
use Rattle.tm_script.specs.declared.faults.Kind.{Kind}
use Rattle.tm_script.specs.declared.faults.Kind.TheVariants.{BadLine, NoEnd}
use Rattle.tm_script.specs.declared.faults.ScriptFault.{ScriptFault}
use Rattle.work_script.specs.declared.syntax.WorkScript.{WorkScript}
use Rattle.work_script.specs.declared.words.WorkKnown.{WorkKnown}
use Rattle.work_script.specs.Grammar.{first_line}
use Rattle.work_script.specs.Reading.{WorkBody, body_from, count_slot, number_at_place}
use Rattle.work_script.specs.Reading.{work_fault_at}
use Rattle.work_script.specs.Reading.{numbers_of, unended}

-- the number of works, by the numbers of its line
abbrev pub count_told : Result (List ℕ) Kind → Result ℕ Kind
count_told (Ok ns) = Ok (number_at_place ns 0)
count_told (Err kind) = Err kind

-- the number of works, by the words of its line
unfoldable pub work_count_in : List (List ℕ) → Result ℕ Kind
work_count_in [] = Err BadLine
work_count_in (first ∷ behind) =
    if bytes_eq first (codes "count") then count_told (numbers_of (count_slot ∷ []) behind)
    else Err BadLine

-- what is known before the first moment
abbrev pub known_first : (count : ℕ) → WorkKnown
known_first count = record { line = first_line; count = count; last = None; ops = 0 }

-- the script of so many works that goes on so
abbrev pub with_count : (count : ℕ) → Result WorkBody ScriptFault → Result WorkScript ScriptFault
with_count count (Err fault) = Err fault
with_count count (Ok b) = Ok (record { count = count; moments = b.moments; end = b.end })

-- reading goes on behind the line of the number of works, or stops at its fault
abbrev pub go_on_counted : Result ℕ Kind → List (List ℕ) → Result WorkScript ScriptFault
go_on_counted (Err kind) parts = Err (work_fault_at 2 kind)
go_on_counted (Ok count) parts = with_count count (body_from parts (known_first count))

-- behind the first line
abbrev pub counted : List (List ℕ) → Result WorkScript ScriptFault
counted [] = Err (work_fault_at 2 NoEnd)
counted (rest ∷ []) = Err (unended 2 rest)
counted (line ∷ next ∷ more) = go_on_counted (work_count_in (words_of line)) (next ∷ more)

-- what these parts of a text say, the last of which isn't ended
abbrev pub said_among : List (List ℕ) → Result WorkScript ScriptFault
said_among [] = Err (work_fault_at 1 NoEnd)
said_among (rest ∷ []) = Err (unended 1 rest)
said_among (first ∷ next ∷ more) =
    if bytes_eq first (codes "works 1") then counted (next ∷ more)
    else Err (work_fault_at 1 BadLine)

-- WHAT A TEXT SAYS: a script of works, or its first fault
abbrev pub said_in : List ℕ → Result WorkScript ScriptFault
said_in bytes = said_among (lines_of bytes)

-- the fault that reading tells, if it does
abbrev pub fault_told : Result WorkScript ScriptFault → Option ScriptFault
fault_told (Ok s) = None
fault_told (Err fault) = Some fault

-- THE FIRST FAULT of a text
abbrev pub works_fault : List ℕ → Option ScriptFault
works_fault bytes = fault_told (said_in bytes)
