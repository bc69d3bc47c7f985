-- the share of a CPU in a moment: its interrupt, where it has one, and then its own lines of the
-- script, each with the line that answers it
use Rattle.std.specs.Prelude.{◌≡◌, ◌⊎◌, ℕ, suc, ◌+◌, ◌≤◌, Bool, true, false, List, [], ◌∷◌, ◌++◌}
use Rattle.std.specs.Prelude.{Option, Some, None, filter, max, ◌==◌, if◌then◌else◌}
use Rattle.tm_base.specs.declared.names.Class.{Class}
use Rattle.tm_base.specs.declared.names.CpuId.{CpuId}
use Rattle.tm_base.specs.declared.names.TimerId.{TimerId}
use Rattle.tm_base.specs.declared.names.TheConstants.{NEVER}
use Rattle.tm_base.specs.declared.faults.OpFault.{OpFault}
use Rattle.tm_base.specs.declared.faults.OpFault.TheVariants as faults
use Rattle.tm_script.specs.declared.syntax.Op.{Op}
use Rattle.tm_script.specs.declared.syntax.What.{What}
use Rattle.tm_script.specs.declared.syntax.What.TheVariants as whats
use Rattle.cpu_bases.specs.declared.entry.Act.TheVariants.{Armed, Cancelled}
use Rattle.tm_report.specs.declared.lines.Line.{Line}
use Rattle.tm_report.specs.declared.lines.Line.TheVariants as lines
use Rattle.play_rules.specs.Interrupts.{Replies, cpu_id}
use Rattle.play_rules.specs.Operations.{refused_line}
use Rattle.run_story.specs.Written.{WrittenEntry}
use Rattle.run_story.specs.Runs.{Queues, TellsInterrupt}

-- a CPU as it stands between two of its lines: whether it is idle, its wakeup, what it has written
-- in this moment, and behind how many entries of its own journal it is by now at least
pub record Standing : Type 0 where
  pub idle : Bool
  pub wakeup : ℕ
  pub wrote : List WrittenEntry
  pub since : ℕ

-- behind what a CPU wrote into its own journal
abbrev pub behind_own : (cpu : ℕ) → WrittenEntry → (since : ℕ) → ℕ
behind_own cpu x since = if x.home == cpu then max since (suc x.place) else since

-- behind all of that
unfoldable pub behind_all : (cpu : ℕ) → List WrittenEntry → (since : ℕ) → ℕ
behind_all cpu [] since = since
behind_all cpu (x ∷ xs) since = behind_all cpu xs (behind_own cpu x since)

-- a CPU that has written this besides
abbrev pub with_written : (cpu : ℕ) → List WrittenEntry → Standing → Standing
with_written cpu more s = record s {
  wrote = s.wrote ++ more;
  since = behind_all cpu more s.since;
}

-- REFUSALS by the CPU: it is offline, or idle where it would have to be active, or active where it
-- would have to be idle
abbrev pub fault_of : What → (online idle : Bool) → Option OpFault
fault_of what false idle = Some faults.Offline
fault_of (whats.Arm timer class delay job arg) true idle =
    if idle then Some faults.NotActive else None
fault_of (whats.Cancel timer) true idle = if idle then Some faults.NotActive else None
fault_of whats.Idle true idle = if idle then Some faults.NotActive else None
fault_of whats.Wake true idle = if idle then None else Some faults.NotIdle
fault_of whats.Offline true idle = if idle then Some faults.NotActive else None
fault_of whats.Online true idle = Some faults.AlreadyOnline

-- WHAT IS KNOWN of timers and events while other CPUs go on beside: that a timer was queued on a
-- CPU; that it was queued nowhere, where the CPU had written this; and that the first event of this
-- CPU was at a time, somewhere behind so many entries of its journal
pub record Known : Type 1 where
  pub queues : Queues
  pub nowhere : (timer : ℕ) → List WrittenEntry → Type 0
  pub first : (cpu since first : ℕ) → Type 0

-- an entry of an arming by a line of the script
pub record IsArmingBy (now cpu line : ℕ) (timer : TimerId) (class : Class) (delay job arg : ℕ)
    (x : WrittenEntry) : Type 0 where
  pub act : x.entry.act ≡ Armed
  pub home : x.home ≡ cpu
  pub line_is : x.entry.line ≡ line
  pub timer_is : x.entry.timer ≡ timer
  pub class_is : x.entry.class ≡ class
  pub expires : x.entry.expires ≡ now + delay
  pub job_is : x.entry.job ≡ job
  pub arg_is : x.entry.arg ≡ arg

-- an entry of a cancelling by a line of the script
pub record IsCancellingBy (line : ℕ) (timer : TimerId) (x : WrittenEntry) : Type 0 where
  pub act : x.entry.act ≡ Cancelled
  pub line_is : x.entry.line ≡ line
  pub timer_is : x.entry.timer ≡ timer

module _ (known : Known) (now cpu : ℕ) where
  -- ARM: the timer is armed, and the line shows its wheel expiry
  pub record TellsArm (line : ℕ) (timer : TimerId) (class : Class) (delay job arg : ℕ)
      (old new : Standing) (told : Line) : Type 0 where
    pub entry : WrittenEntry
    pub arming : IsArmingBy now cpu line timer class delay job arg entry
    pub line_is : told ≡ lines.Arm now (cpu_id cpu) timer class entry.entry.wheel
    pub new_is : new ≡ with_written cpu (entry ∷ []) old

  -- or refused, since it was queued on a CPU
  pub record TellsQueued (line : ℕ) (timer : TimerId) (old new : Standing) (told : Line) : Type 0
    where
      pub holder : CpuId
      pub queued : known.queues timer.0 holder.0
      pub line_is : told ≡ refused_line (faults.Queued holder) now line (cpu_id cpu)
      pub new_is : new ≡ old

  -- CANCEL: the timer is cancelled where it was queued
  pub record TellsCancel (line : ℕ) (timer : TimerId) (old new : Standing) (told : Line) : Type 0
    where
      pub entry : WrittenEntry
      pub cancelling : IsCancellingBy line timer entry
      pub line_is : told ≡ lines.Cancel now (cpu_id cpu) timer (cpu_id entry.home)
      pub new_is : new ≡ with_written cpu (entry ∷ []) old

  -- or was queued nowhere
  pub record TellsNone (timer : TimerId) (old new : Standing) (told : Line) : Type 0 where
    pub nowhere : known.nowhere timer.0 old.wrote
    pub line_is : told ≡ lines.NotQueued now (cpu_id cpu) timer
    pub new_is : new ≡ old

  -- IDLE: the CPU stays, since its first event is at most a jiffy ahead
  pub record TellsStay (old new : Standing) (told : Line) : Type 0 where
    pub first : ℕ
    pub is_first : known.first cpu old.since first
    pub soon : first ≤ now + 1
    pub line_is : told ≡ lines.Stay now (cpu_id cpu) first
    pub new_is : new ≡ old

  -- or has gone idle, with the wakeup that the line shows
  pub record TellsIdle (old new : Standing) (told : Line) : Type 0 where
    pub until : ℕ
    pub line_is : told ≡ lines.Idle now (cpu_id cpu) until
    pub new_is : new ≡ record old { idle = true; wakeup = until }

  -- WAKE: the CPU is active, and has no wakeup
  pub record TellsWake (old new : Standing) (told : Line) : Type 0 where
    pub line_is : told ≡ lines.Wake now (cpu_id cpu)
    pub new_is : new ≡ record old { idle = false; wakeup = NEVER }

  -- AN OPERATION that the CPU doesn't refuse; in a moment with threads none goes off or online
  abbrev pub TellsDone : What → (line : ℕ) → (old new : Standing) → Line → Type 0
  TellsDone (whats.Arm timer class delay job arg) line old new told =
      TellsArm line timer class delay job arg old new told
      ⊎ TellsQueued line timer old new told
  TellsDone (whats.Cancel timer) line old new told =
      TellsCancel line timer old new told ⊎ TellsNone timer old new told
  TellsDone whats.Idle line old new told = TellsStay old new told ⊎ TellsIdle old new told
  TellsDone whats.Wake line old new told = TellsWake old new told
  TellsDone whats.Offline line old new told = ⊥
  TellsDone whats.Online line old new told = ⊥

  -- a refusal by the CPU, which changes nothing
  pub record TellsRefused (fault : OpFault) (line : ℕ) (old new : Standing) (told : Line) : Type 0
    where
      pub line_is : told ≡ refused_line fault now line (cpu_id cpu)
      pub new_is : new ≡ old

  -- by what the CPU refuses
  abbrev pub TellsByRefusal : Option OpFault → What → (line : ℕ) → (old new : Standing) → Line
      → Type 0
  TellsByRefusal None what line old new told = TellsDone what line old new told
  TellsByRefusal (Some fault) what line old new told = TellsRefused fault line old new told

  -- AN OPERATION and its answer
  abbrev pub TellsOp : (online : Bool) → Op → (old new : Standing) → Line → Type 0
  TellsOp online op old new told =
      TellsByRefusal (fault_of op.what online old.idle) op.what op.line old new told

  -- THE OPERATIONS of a CPU in line order, each with exactly one line
  unfoldable pub TellsOps : (online : Bool) → List Op → (old new : Standing) → List Line → Type 0
  TellsOps online [] old new told = (told ≡ []) × (new ≡ old)
  TellsOps online (op ∷ ops) old new [] = ⊥
  TellsOps online (op ∷ ops) old new (l ∷ ls) =
      (mid : Standing) × TellsOp online op old mid l × TellsOps online ops mid new ls

  -- AN INTERRUPT, where the CPU has one: it stays as idle as it was, and may tell its wakeup anew
  pub record TellsDue (jobs : Replies) (old new : Standing) (told : List Line) : Type 0 where
    pub more : List WrittenEntry
    pub interrupt : TellsInterrupt known.queues jobs now cpu more told
    pub wakeup : ℕ
    pub new_is : new ≡ record (with_written cpu more old) { wakeup = wakeup }

  -- nothing where it has none
  abbrev pub TellsIfDue : (due : Bool) → Replies → (old new : Standing) → List Line → Type 0
  TellsIfDue true jobs old new told = TellsDue jobs old new told
  TellsIfDue false jobs old new told = (told ≡ []) × (new ≡ old)

  -- A SHARE: the CPU's interrupt, and then its operations
  pub record TellsShare (jobs : Replies) (due online : Bool) (ops : List Op) (old new : Standing)
      (told : List Line) : Type 0 where
    pub mid : Standing
    pub runs : List Line
    pub answers : List Line
    pub first : TellsIfDue due jobs old mid runs
    pub answered : TellsOps online ops mid new answers
    pub told_are : told ≡ runs ++ answers

-- the operations of a CPU
abbrev pub own_ops : (cpu : ℕ) → List Op → List Op
own_ops cpu ops = filter (λ (o : Op). o.cpu.0 == cpu) ops
