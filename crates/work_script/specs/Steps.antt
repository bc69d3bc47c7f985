-- how the code reads; no public clause speaks of this
use Rattle.std.specs.Prelude.{◌≡◌, ℕ, ◌<◌, ◌≤◌, List, [], ◌∷◌, ◌++◌, length, Option, Some, None}
use Rattle.std.specs.Prelude.{Result, Ok, Err}
use Rattle.text_words.specs.Words.{words_of}
use Rattle.tm_script.specs.declared.faults.ReadScript.{ReadScript}
use Rattle.tm_script.specs.declared.faults.ReadScript.TheVariants.{Refused, NoMemory}
use Rattle.tm_script.specs.declared.faults.ScriptFault.{ScriptFault}
use Rattle.work_script.specs.declared.syntax.WorkScript.{WorkScript}
use Rattle.work_script.specs.declared.syntax.WorkMoment.{WorkMoment}
use Rattle.work_script.specs.declared.syntax.WorkOp.{WorkOp}
use Rattle.work_script.specs.declared.numbers.TheConstants.{MOST_NUMBERS}
use Rattle.work_script.specs.declared.words.NumberSlot.{NumberSlot}
use Rattle.work_script.specs.declared.words.WorkSaid.{WorkSaid}
use Rattle.work_script.specs.declared.words.WorkSaid.TheVariants.{Opening, Operation, Ending}
use Rattle.work_script.specs.declared.draft.Draft.{Draft}
use Rattle.work_script.specs.Reading.{WorkBody, work_known_after}

-- the numbers from `first` on are there, of so many as there may be
pub record IsNumberList (numbers : List ℕ) (first : ℕ) : Type 0 where
  pub whole : length numbers ≡ MOST_NUMBERS
  pub within : first ≤ MOST_NUMBERS

-- a number for each place, within its limits
abbrev pub AreWithin : List NumberSlot → List ℕ → Type 0
AreWithin [] [] = Unit {0}
AreWithin (s ∷ ss) (n ∷ ns) = (s.least ≤ n) × (n < s.bound) × AreWithin ss ns
AreWithin _ _ = ⊥

-- the words behind a first one, which may be none
abbrev pub work_words_behind : Option (List ℕ) → List (List ℕ)
work_words_behind None = []
work_words_behind (Some bytes) = words_of bytes

-- the moments of a draft, the open one among them
abbrev pub work_closed_with : List WorkMoment → Option ℕ → List WorkOp → List WorkMoment
work_closed_with moments None ops = moments
work_closed_with moments (Some at) ops = moments ++ record { at = at; ops = ops } ∷ []

-- the moments of a draft and what is still to be read
abbrev pub joined_moments : List WorkMoment → Option ℕ → List WorkOp → WorkBody → List WorkMoment
joined_moments moments None ops b = moments ++ b.moments
joined_moments moments (Some at) ops b =
    moments ++ record { at = at; ops = ops ++ b.ops } ∷ b.moments

-- the script of a draft and what is still to be read
abbrev pub with_draft : Draft → Result WorkBody ScriptFault → Result WorkScript ScriptFault
with_draft d (Err fault) = Err fault
with_draft d (Ok b) = Ok (record {
  count = d.known.count;
  moments = joined_moments d.moments d.known.last d.ops b;
  end = b.end;
})

-- a draft with a line more
abbrev pub work_draft_after : Draft → WorkSaid → Draft
work_draft_after d (Opening at) = record {
  known = work_known_after d.known (Opening at);
  moments = work_closed_with d.moments d.known.last d.ops;
  ops = [];
}
work_draft_after d (Operation op) =
    record d { known = work_known_after d.known (Operation op); ops = d.ops ++ op ∷ [] }
work_draft_after d (Ending end) = record d { known = work_known_after d.known (Ending end) }

-- what a function returned is what reading gives; want of memory may stand for either
abbrev pub FailsWorkScript : ReadScript → Result WorkScript ScriptFault → Type 0
FailsWorkScript (Refused fault) read = read ≡ Err fault
FailsWorkScript NoMemory read = Unit {0}

-- an answer is what reading gives
abbrev pub Gives : Result WorkScript ReadScript → Result WorkScript ScriptFault → Type 0
Gives (Ok s) read = read ≡ Ok s
Gives (Err e) read = FailsWorkScript e read
