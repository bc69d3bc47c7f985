-- who answers for a timer, in words
use Rattle.std.specs.Prelude.{◌≡◌, ℕ, zero, suc, ◌==◌, List, [], ◌++◌, codes, if◌then◌else◌}
use Rattle.core_world.specs.World.{World}
use Rattle.step_causes.specs.CauseTexts.{around, around_two}
use Rattle.trace_check.specs.declared.reason.Reason.{Reason}
use Rattle.trace_check.specs.declared.reason.Reason.TheVariants as reasons
use Rattle.trace_check.specs.Reasons.{HasNoReason, IsReason}
use Rattle.trace_explain.specs.Walks.{group_name}

-- what carries, by the number of the case
abbrev pub case_text : ℕ → List ℕ
case_text case =
    if case == 1 then codes "its CPU's own walk or interrupt carries it"
    else (if case == 2 then codes "a walk carries what a sleeping group was told"
    else (if case == 3 then codes "a walk is about to change the group that was told"
    else codes "a walk or an interrupt is on its way to the sleeping top"))

-- WHO ANSWERS
unfoldable pub reason_text : World → Reason → List ℕ
reason_text w (reasons.Held group cpu) =
    codes "group " ++ (group_name w.tree group.0 ++ around (codes " was told, and leads to CPU ")
    cpu.0 [])
reason_text w (reasons.Woken cpu at) = around_two (codes "CPU ") cpu.0 (codes " wakes at ") at []
reason_text w (reasons.Carried case) = case_text case

-- a line on it: what begins the line, the timer, the CPU on which it is queued, and who answers
unfoldable pub told_text : (front : List ℕ) → World → (c timer : ℕ) → Reason → List ℕ
told_text front w c timer reason =
    around_two front timer (codes " of CPU ") c
    (codes ": " ++ (reason_text w reason ++ codes "\n"))

-- A TIMER that waits has a line, for the CPU on which it is queued; another one has none
pub data IsTimerAnswer (w : World) (timer : ℕ) (text : List ℕ) : Type 0 where
  answered : (c : ℕ) (reason : Reason) → IsReason w c timer reason →
      text ≡ told_text (codes "  timer ") w c timer reason → IsTimerAnswer w timer text
  nobody_waits : ((c : ℕ) → HasNoReason w c timer) → text ≡ [] → IsTimerAnswer w timer text

-- a text goes on with the line of one more timer
pub record HasOneMore (w : World) (timer : ℕ) (Front : List ℕ → Type 0) (text : List ℕ) :
    Type 0 where
  pub front : List ℕ
  pub last : List ℕ
  pub before : Front front
  pub answer : IsTimerAnswer w timer last
  pub joined : text ≡ front ++ last

-- WHO ANSWERS for each waiting timer below a number, in the order of the timers
unfoldable pub AreAnswers : World → (count : ℕ) → (text : List ℕ) → Type 0
AreAnswers w zero text = text ≡ []
AreAnswers w (suc n) text = HasOneMore w n (AreAnswers w n) text

-- what is told of a question
pub data IsTimerTold (w : World) (c timer : ℕ) (text : List ℕ) : Type 0 where
  told_answer : (reason : Reason) → IsReason w c timer reason →
      text ≡ told_text (codes "why: timer ") w c timer reason → IsTimerTold w c timer text
  nobody_has_to : HasNoReason w c timer →
      text ≡ around_two (codes "why: nobody has to answer for timer ") timer (codes " of CPU ") c
      (codes "\n") → IsTimerTold w c timer text
