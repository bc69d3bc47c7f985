-- what the reader answers
use Rattle.std.specs.Prelude.{◌≡◌, ℕ, List, Some}
use Rattle.tm_script.specs.declared.faults.ReadScript.{ReadScript}
use Rattle.tm_script.specs.declared.faults.ReadScript.TheVariants.{Refused, NoMemory}
use Rattle.work_script.specs.declared.syntax.WorkScript.{WorkScript}
use Rattle.work_script.specs.Grammar.{SpellsWorks}
use Rattle.work_script.specs.Faults.{works_fault}

-- these bytes spell no other script of works
abbrev pub IsOnlyWorksOf : List ℕ → WorkScript → Type 0
IsOnlyWorksOf bytes s = (t : WorkScript) → SpellsWorks bytes t → t ≡ s

-- A refusal tells the first fault, and the bytes spell no script of works. Want of memory says
-- nothing of them.
abbrev pub IsWorksRefusalOf : List ℕ → ReadScript → Type 0
IsWorksRefusalOf bytes (Refused fault) =
    (works_fault bytes ≡ Some fault) × ((s : WorkScript) → SpellsWorks bytes s → ⊥)
IsWorksRefusalOf bytes NoMemory = Unit {0}
