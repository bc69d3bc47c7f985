-- what the reader answers
use Rattle.std.specs.Prelude.{◌≡◌, ℕ, List, Some}
use Rattle.trace_text.specs.declared.answers.ReadTrace.{ReadTrace}
use Rattle.trace_text.specs.declared.answers.ReadTrace.TheVariants.{Refused, NoMemory}
use Rattle.trace_text.specs.declared.traces.Trace.{Trace}
use Rattle.trace_text.specs.Texts.{SpellsTrace}
use Rattle.trace_text.specs.Faults.{trace_fault}

-- these bytes spell no other trace
abbrev pub IsOnlyTraceOf : List ℕ → Trace → Type 0
IsOnlyTraceOf bytes t = (u : Trace) → SpellsTrace bytes u → u ≡ t

-- A refusal tells the first fault, and the bytes spell no trace. Want of memory says nothing of
-- them.
abbrev pub IsTraceRefusalOf : List ℕ → ReadTrace → Type 0
IsTraceRefusalOf bytes (Refused fault) =
    (trace_fault bytes ≡ Some fault) × ((t : Trace) → SpellsTrace bytes t → ⊥)
IsTraceRefusalOf bytes NoMemory = Unit {0}
