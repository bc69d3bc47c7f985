-- how the code reads; no public clause speaks of this
use Rattle.std.specs.Prelude.{◌≡◌, ℕ, ◌≤◌, List, [], Option, Some, None, Result, Ok, Err, ◌++◌}
use Rattle.std.specs.Prelude.{◌∷◌, codes, length, map}
use Rattle.text_words.specs.Words.{words_of}
use Rattle.tm_script.specs.declared.faults.ScriptFault.{ScriptFault}
use Rattle.tm_script.specs.declared.syntax.Script.{Script}
use Rattle.tm_script.specs.Faults.{fault_of}
use Rattle.tm_script.specs.Grammar.{Spells as SpellsScript}
use Rattle.tm_script.specs.Reader.{IsOnlyScriptOf}
use Rattle.trace_text.specs.declared.answers.ReadTrace.{ReadTrace}
use Rattle.trace_text.specs.declared.answers.ReadTrace.TheVariants.{Refused, NoMemory}
use Rattle.trace_text.specs.declared.traces.Trace.{Trace}
use Rattle.trace_text.specs.Lines.{trace_line_text}
use Rattle.trace_text.specs.Texts.{IsTrace, as_script, machine_lines}
use Rattle.trace_text.specs.Faults.{fault_behind, machine_text}
use Rattle.trace_text.specs.declared.traces.TraceLine.{TraceLine}
use Rattle.trace_text.specs.declared.words.Field.{Field}
use Rattle.trace_text.specs.declared.fields.TheConstants.{MOST_FIELDS}

-- the fields from `first` on are there, of so many as there may be
pub record IsFieldList (fields : List Field) (first : ℕ) : Type 0 where
  pub whole : length fields ≡ MOST_FIELDS
  pub within : first ≤ MOST_FIELDS

-- the words behind a first one, which may be none
abbrev pub trace_words_behind : Option (List ℕ) → List (List ℕ)
trace_words_behind None = []
trace_words_behind (Some bytes) = words_of bytes

-- lines in front of those that are still to be read
abbrev pub with_front : List TraceLine → Result (List TraceLine) ScriptFault →
    Result (List TraceLine) ScriptFault
with_front front (Ok ls) = Ok (front ++ ls)
with_front front (Err fault) = Err fault

-- what a function returned is what reading gives; want of memory may stand for either
abbrev pub FailsTrace : {A : Type 0} → ReadTrace → Result A ScriptFault → Type 0
FailsTrace (Refused fault) read = read ≡ Err fault
FailsTrace NoMemory read = Unit {0}

-- an answer is what reading gives
abbrev pub Gives : {A : Type 0} → Result A ReadTrace → Result A ScriptFault → Type 0
Gives (Ok x) read = read ≡ Ok x
Gives (Err e) read = FailsTrace e read

-- the script whose text this is
pub record IsScriptOf (text : List ℕ) (s : Script) : Type 0 where
  pub spelled : SpellsScript text s
  pub only : IsOnlyScriptOf text s

-- a text that is no script
abbrev pub FailsAsScript : List ℕ → ReadTrace → Type 0
FailsAsScript text (Refused fault) = fault_of text ≡ Some fault
FailsAsScript text NoMemory = Unit {0}

-- the lines of steps and questions, the end, and nothing behind it
abbrev pub body_parts : List TraceLine → List (List ℕ)
body_parts ls = map trace_line_text ls ++ codes "end" ∷ [] ∷ []

-- what is read behind the first line
pub record IsReadBehind (parts : List (List ℕ)) (t : Trace) : Type 0 where
  pub is : IsTrace t
  pub spelled : parts ≡ machine_lines t ++ body_parts t.lines
  pub only : IsOnlyScriptOf (machine_text (machine_lines t)) (as_script t)

-- a refusal tells the fault behind the first line
abbrev pub FailsBehind : List (List ℕ) → ReadTrace → Type 0
FailsBehind parts (Refused fault) = fault_behind parts ≡ Some fault
FailsBehind parts NoMemory = Unit {0}
