-- causes in words: one sentence each
use Rattle.std.specs.Prelude.{ℕ, List, [], ◌++◌, codes}
use Rattle.std.specs.Fmt.{decimal}
use Rattle.tm_base.specs.Classes.{class_text}
use Rattle.step_causes.specs.declared.causes.Cause.{Cause}
use Rattle.step_causes.specs.declared.causes.Cause.TheVariants as causes
use Rattle.step_causes.specs.declared.causes.CpuFact.{CpuFact}
use Rattle.step_causes.specs.declared.causes.CpuFact.TheVariants as facts

-- a number between two pieces of a sentence
abbrev pub around : (front : List ℕ) → (n : ℕ) → (back : List ℕ) → List ℕ
around front n back = front ++ (decimal n ++ back)

-- two numbers among three pieces of a sentence
abbrev pub around_two : (front : List ℕ) → (m : ℕ) → (middle : List ℕ) → (n : ℕ) →
    (back : List ℕ) → List ℕ
around_two front m middle n back = around front m (around middle n back)

-- WHAT A FACT SAYS, behind the name of its CPU
unfoldable pub fact_text : CpuFact → List ℕ
fact_text facts.Missing = codes " isn't there"
fact_text facts.HasWalk = codes " has a walk"
fact_text facts.HasNoWalk = codes " has no walk"
fact_text facts.WaitsToHandOn = codes " waits to hand on"
fact_text facts.WalksOn = codes " has a walk that doesn't wait to hand on"
fact_text facts.Reevaluates = codes " re-evaluates"
fact_text facts.Offline = codes " is offline"
fact_text facts.Online = codes " is online"
fact_text facts.Idle = codes " is idle"
fact_text facts.NotIdle = codes " isn't idle"
fact_text facts.OnlineIdle = codes " is online and idle"
fact_text facts.IdleOutside = codes " is idle, outside its interrupt"
fact_text facts.Inside = codes " is in its interrupt"
fact_text facts.Outside = codes " is outside its interrupt"
fact_text facts.Isolated = codes " is isolated"
fact_text facts.LastOnline = codes " is placed, and no other placed CPU is online"
fact_text facts.Marks = codes " has marked a CPU"
fact_text facts.Unmarked = codes " is marked by nobody"
fact_text facts.EventNotDue = codes " has no due event in its leaf"

-- THE SENTENCE of a cause
unfoldable pub cause_sentence : Cause → List ℕ
cause_sentence (causes.Cpu cpu fact) = around (codes "CPU ") cpu.0 (fact_text fact)
cause_sentence (causes.NoSuchTimer timer) = around (codes "timer ") timer.0 (codes " isn't there")
cause_sentence (causes.Past at) = around (codes "jiffy ") at (codes " is before the clock")
cause_sentence (causes.TooLate at limit) =
    around_two (codes "jiffy ") at (codes " isn't below ") limit []
cause_sentence (causes.Marked cpu by) =
    around_two (codes "CPU ") cpu.0 (codes " is marked by CPU ") by.0 []
cause_sentence (causes.LockTaken cpu level place by) =
    around_two (codes "CPU ") cpu.0 (codes " waits for the lock of ") level
    (around_two (codes ":") place (codes ", taken by CPU ") by.0 [])
cause_sentence (causes.ToItself cpu) =
    around (codes "CPU ") cpu.0 (codes " would hand on to itself")
cause_sentence (causes.EventSoon cpu at) =
    around_two (codes "CPU ") cpu.0 (codes " has its first event at ") at
    (codes ", at most a jiffy ahead")
cause_sentence (causes.Queued timer on) =
    around_two (codes "timer ") timer.0 (codes " is queued on CPU ") on.0 []
cause_sentence (causes.NotQueued timer cpu) =
    around_two (codes "timer ") timer.0 (codes " isn't queued on CPU ") cpu.0 []
cause_sentence (causes.Behind cpu class) =
    around (codes "CPU ") cpu.0
    (codes " has a timer behind the clock of its base of class " ++ class_text class)
cause_sentence (causes.BehindThere from to) =
    around_two (codes "CPU ") to.0
    (codes " has a timer behind the clock of the base of the class that CPU ") from.0
    (codes " moves first")
cause_sentence (causes.NoneDue timer cpu) =
    around_two (codes "no timer of the class of timer ") timer.0 (codes " is due on CPU ") cpu.0 []
cause_sentence (causes.NotNext timer cpu first) =
    around_two (codes "timer ") first (codes " goes out before timer ") timer.0
    (around (codes " on CPU ") cpu.0 [])
cause_sentence (causes.NotFirst timer cpu) =
    around_two (codes "timer ") timer.0 (codes " isn't the first to move from CPU ") cpu.0 []
cause_sentence (causes.Due cpu class timer) =
    around_two (codes "timer ") timer (codes " is due on CPU ") cpu.0
    (codes ", of class " ++ class_text class)
cause_sentence (causes.NoRunner cpu class runner) =
    around_two (codes "CPU ") runner.0 (codes " may not run timers of CPU ") cpu.0
    (codes ", of class " ++ class_text class)
cause_sentence (causes.NoRunnerOf timer cpu runner) =
    around_two (codes "CPU ") runner.0 (codes " may not run timer ") timer.0
    (around (codes " of CPU ") cpu.0 [])
