-- what the reader answers
use Rattle.std.specs.Prelude.{◌≡◌, ℕ, List, Some}
use Rattle.tm_script.specs.declared.faults.ReadScript.{ReadScript}
use Rattle.tm_script.specs.declared.faults.ReadScript.TheVariants.{Refused, NoMemory}
use Rattle.tm_script.specs.declared.syntax.Script.{Script}
use Rattle.tm_script.specs.Grammar.{Spells}
use Rattle.tm_script.specs.Faults.{fault_of}

-- these bytes spell no other script
abbrev pub IsOnlyScriptOf : List ℕ → Script → Type 0
IsOnlyScriptOf bytes s = (t : Script) → Spells bytes t → t ≡ s

-- A refusal tells the first fault, and the bytes spell no script. Want of memory says nothing of
-- them.
abbrev pub IsRefusalOf : List ℕ → ReadScript → Type 0
IsRefusalOf bytes (Refused fault) =
    (fault_of bytes ≡ Some fault) × ((s : Script) → Spells bytes s → ⊥)
IsRefusalOf bytes NoMemory = Unit {0}
