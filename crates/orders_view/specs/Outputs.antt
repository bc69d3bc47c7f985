-- what the command writes of its input
use Rattle.std.specs.Prelude.{◌≡◌, ℕ, List, Bool, Option, Some, None, length, if◌then◌else◌}
use Rattle.std.specs.List.{list_any}
use Rattle.linux_view.specs.declared.statuses.TheConstants.{FITS, MISFIT, NO_TRACE, TOO_LONG}
use Rattle.linux_view.specs.declared.statuses.TheConstants.{USAGE}
use Rattle.orders_answer.specs.declared.shown.AnswerShown.{AnswerShown}
use Rattle.orders_answer.specs.declared.shown.TimerShown.{TimerShown}
use Rattle.orders_answer.specs.Answers.{answer_text, forgets, is_nobody}
use Rattle.orders_ends.specs.Sights.{SeenEnd}
use Rattle.orders_rules.specs.declared.rule.Rule.{Rule}
use Rattle.orders_search.specs.declared.found.End.{End}
use Rattle.orders_text.specs.declared.cases.Case.{Case}
use Rattle.orders_text.specs.Faults.{case_fault}
use Rattle.orders_text.specs.Texts.{SpellsCase}
use Rattle.orders_try.specs.declared.attempts.Attempt.{Attempt}
use Rattle.orders_try.specs.declared.attempts.Attempt.TheVariants as attempts
use Rattle.orders_try.specs.declared.attempts.CaseEnds.{CaseEnds}
use Rattle.orders_try.specs.declared.attempts.Shown.{Shown}
use Rattle.orders_try.specs.declared.attempts.Shown.TheVariants as shown
use Rattle.orders_try.specs.Trying.{IsAnswerOf, IsShown, IsTried}
use Rattle.trace_text.specs.Texts.{IsTrace, trace_text}
use Rattle.tm_script.specs.declared.faults.ScriptFault.{ScriptFault}
use Rattle.orders_view.specs.declared.statuses.TheConstants.{FAULT, NOT_ALL}
use Rattle.orders_view.specs.declared.words.Asked.{Asked}
use Rattle.orders_view.specs.Texts.{case_text, fault_line, no_end_text, stuck_text}
use Rattle.orders_view.specs.Texts.{too_many_line}

-- a timer is left to nobody
abbrev pub is_left : TimerShown → Bool
is_left t = is_nobody t.by

-- an end shows one that is
abbrev pub shows_forgotten : End SeenEnd → Bool
shows_forgotten end = forgets end.found.state.timers

-- THE STATUS of what was found: an end leaves a timer to nobody; or none does, and these are all
-- ends; or the limit of states was met
abbrev pub status_found : CaseEnds → ℕ
status_found ends =
    if list_any shows_forgotten ends.ends.items then MISFIT
    else (if ends.is_whole then FITS else NOT_ALL)

-- what is written of all ends
pub record AreAllTold (rule : Rule) (ends : CaseEnds) (text : List ℕ) (status : ℕ) : Type 0 where
  pub answer : AnswerShown
  pub is : IsAnswerOf rule ends answer
  pub text_is : text ≡ answer_text answer
  pub status_is : status ≡ status_found ends

-- what is shown can be printed
abbrev pub IsPrintable : Shown → Type 0
IsPrintable (shown.Trace trace) = IsTrace trace
IsPrintable shown.NoSuchEnd = Unit {0}
IsPrintable shown.TooLong = Unit {0}

-- what is written of an order of the end of this number
abbrev pub IsOrderTold : CaseEnds → (number : ℕ) → Shown → (text : List ℕ) → (status : ℕ) → Type 0
IsOrderTold ends number (shown.Trace trace) text status =
    (text ≡ trace_text trace) × (status ≡ status_found ends)
IsOrderTold ends number shown.NoSuchEnd text status =
    (text ≡ no_end_text number (length ends.ends.items)) × (status ≡ USAGE)
IsOrderTold ends number shown.TooLong text status = (text ≡ too_many_line) × (status ≡ TOO_LONG)

-- what is written of one end; or the search is at fault
pub data IsOneTold (rule : Rule) (case : Case) (ends : CaseEnds) (number : ℕ) (text : List ℕ)
    (status : ℕ) : Type 0 where
  showing : (s : Shown) → IsShown rule case ends number s →
      IsOrderTold ends number s text status → IsOneTold rule case ends number text status
  lost : text ≡ fault_line → status ≡ FAULT → IsOneTold rule case ends number text status

-- WHAT IS WRITTEN OF THE ENDS of a case: all of them, or an order of the one of a number
abbrev pub AreEndsBy : Option ℕ → Rule → Case → CaseEnds → (text : List ℕ) → (status : ℕ) → Type 0
AreEndsBy None rule case ends text status = AreAllTold rule ends text status
AreEndsBy (Some number) rule case ends text status = IsOneTold rule case ends number text status

-- .. as it is asked
abbrev pub AreEndsTold : Asked → Case → CaseEnds → (text : List ℕ) → (status : ℕ) → Type 0
AreEndsTold asked case ends text status = AreEndsBy asked.show asked.rule case ends text status

-- what is written of what trying a case gave
abbrev pub IsAttemptTold : Asked → Case → Attempt → (text : List ℕ) → (status : ℕ) → Type 0
IsAttemptTold asked case (attempts.Ends ends) text status = AreEndsTold asked case ends text status
IsAttemptTold asked case (attempts.Stuck line cause) text status =
    (text ≡ stuck_text line cause.items) × (status ≡ NO_TRACE)
IsAttemptTold asked case attempts.TooLong text status =
    (text ≡ too_many_line) × (status ≡ TOO_LONG)

-- WHAT IS WRITTEN OF A CASE: what trying it under the rule gives; or the search is at fault
pub data IsCaseTold (asked : Asked) (case : Case) (text : List ℕ) (status : ℕ) : Type 0 where
  tried : (a : Attempt) → IsTried asked.rule case a → IsAttemptTold asked case a text status →
      IsCaseTold asked case text status
  untried : text ≡ fault_line → status ≡ FAULT → IsCaseTold asked case text status

-- WHAT THE COMMAND WRITES of these bytes: the case that they spell is told; or they spell none, and
-- the first fault is named
pub data IsTelling (asked : Asked) (bytes text : List ℕ) (status : ℕ) : Type 0 where
  spelled : (case : Case) → SpellsCase bytes case → IsCaseTold asked case text status →
      IsTelling asked bytes text status
  refused : (fault : ScriptFault) → case_fault bytes ≡ Some fault → text ≡ case_text fault →
      status ≡ NO_TRACE → IsTelling asked bytes text status
