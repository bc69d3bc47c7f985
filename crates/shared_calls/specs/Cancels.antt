-- what cancelling on the shared words refuses, and what it makes of the pass
use Rattle.std.specs.Prelude.{◌≡◌, ℕ, ◌<◌, Bool, true, false, not, List, Option, Some, None, length}
use Rattle.std.specs.Prelude.{if◌then◌else◌}
use Rattle.atomic_table.specs.Seated.{TableId}
use Rattle.tm_base.specs.declared.faults.OpFault.{OpFault}
use Rattle.tm_base.specs.declared.faults.OpFault.TheVariants as faults
use Rattle.tm_base.specs.declared.names.Class.{Class}
use Rattle.tm_base.specs.declared.names.CpuId.{CpuId}
use Rattle.cpu_bases.specs.CpuBases.{class_in}
use Rattle.core_world.specs.World.{World, cpu_of}
use Rattle.shared_words.specs.declared.spot.Spot.{Spot}
use Rattle.shared_words.specs.Words.{spot_of}
use Rattle.shared_table.specs.shared_rule.declared.parts.Look.{Look}
use Rattle.shared_table.specs.shared_rule.declared.parts.PassView.{PassView}
use Rattle.shared_table.specs.shared_rule.Plays.{Agree, PartFits, seen_pass}
use Rattle.shared_table.specs.shared_rule.Rule.{Each}
use Rattle.shared_table.specs.shared_rule.Parts.{HeldPart, pass_parted, with_guest}
use Rattle.shared_table.specs.shared_rule.Passes.{HeldPass, IsPassIn, with_pass, with_receipts_room}
use Rattle.shared_timers.specs.Exchanging.{timer_word}
use Rattle.shared_timers.specs.Queueing.{cancelled_part}
use Rattle.shared_looks.specs.Looks.{IsPassBegunWith, seen_all}
use Rattle.shared_looks.specs.Rooms.{with_more_room}
use Rattle.shared_calls.specs.declared.cancelling.Tried.{Tried}
use Rattle.shared_calls.specs.declared.cancelling.Tried.TheVariants as tries
use Rattle.shared_calls.specs.Arms.{IsArmRefused, MetBy, met}
use Rattle.shared_calls.specs.Looks.{NamesHome}

-- CANCEL: why a CPU can't: it is offline, or idle
abbrev pub cancel_fault_of : (online idle : Bool) → Option OpFault
cancel_fault_of online idle =
    if not online then Some faults.Offline else (if idle then Some faults.NotActive else None)

-- the same by what its pass knows, since no CPU goes offline or online in a run
abbrev pub cancel_fault_by : PassView → Option OpFault
cancel_fault_by p = cancel_fault_of (cpu_of p.opening p.cpu).online p.idle

-- THE ANSWER of the part of a pass's CPU: whether it may cancel; the pass then knows the CPU's
-- journal as it is by now (no public clause cites it)
pub record IsCancelAsked (table : TableId) (o : World) (part : HeldPart) (held after : HeldPass)
    (answer : Option OpFault) : Type 0 where
  pub by : MetBy table part held
  pub of_run : IsPassBegunWith table o (met part held)
  pub pass_is : after ≡ met part held
  pub fault : (p : PassView) → IsPassIn table held p → answer ≡ cancel_fault_by p

-- the part of a CPU of the run, as the call finds it
pub record IsPartOf (o : World) (cpu : ℕ) (part : HeldPart) : Type 0 where
  pub cpu_is : part.box.cpu ≡ cpu
  pub opening : part.box.opening ≡ o
  pub fits : PartFits part.box

-- TAKEN OUT of a part: the timer was queued there, part and pass agreed, and the pass has the
-- receipt
pub record IsTakenOut (table : TableId) (timer line : ℕ) (part : HeldPart)
    (held after : HeldPass) : Type 0 where
  pub class : Class
  pub queued : class_in timer part.box.own.bases ≡ Some class
  pub agree : (p : PassView) → IsPassIn table held p → Agree part.box p
  pub pass_is :
      after
      ≡ pass_parted table held.cpu
      (cancelled_part timer line
      (with_guest (with_more_room 0 1 part) (with_receipts_room 1 held)))

-- taken out of a part, or not queued there (no public clause cites it)
abbrev pub TookOut : TableId → (timer line : ℕ) → HeldPart → (held after : HeldPass)
    → (taken : Bool) → Type 0
TookOut table timer line part held after true = IsTakenOut table timer line part held after
TookOut table timer line part held after false =
    (class_in timer part.box.own.bases ≡ None) × (after ≡ held)

-- THE LAST LOAD of the timer's word found that it isn't queued
abbrev pub IsNowhere : World → (timer : ℕ) → (held after : HeldPass) → Type 0
IsNowhere o timer held after = after ≡ with_pass (seen_pass (timer_word o timer) 0) held

-- or named a CPU, and in the part of that CPU the timer was, and was taken out
pub record IsCancelled (table : TableId) (o : World) (timer line : ℕ) (held after : HeldPass)
    (cpu : CpuId) : Type 0 where
  pub found : ℕ
  pub spot : Spot
  pub names : spot_of found ≡ Some spot
  pub cpu_is : spot.cpu ≡ cpu
  pub of_run : cpu.0 < length o.cpus
  pub home : HeldPart
  pub home_is : IsPartOf o cpu.0 home
  pub taken :
      IsTakenOut table timer line home (with_pass (seen_pass (timer_word o timer) found) held)
      after

-- or named a CPU, and no more was done (no public clause cites it)
pub record IsElsewhere (o : World) (timer : ℕ) (held after : HeldPass) : Type 0 where
  pub look : Look
  pub names : NamesHome o timer look
  pub pass_is : after ≡ with_pass (seen_pass look.word look.found) held

-- GONE: a load named a CPU, and in the part of that CPU the timer wasn't queued
pub record WasGone (o : World) (timer : ℕ) (x : Look) : Type 0 where
  pub names : NamesHome o timer x
  pub home : HeldPart
  pub home_is : IsPartOf o names.spot.cpu.0 home
  pub gone : class_in timer home.box.own.bases ≡ None

-- what such a load makes of the pass (no public clause cites it)
pub record IsGone (o : World) (timer : ℕ) (held after : HeldPass) : Type 0 where
  pub look : Look
  pub gone : WasGone o timer look
  pub pass_is : after ≡ with_pass (seen_pass look.word look.found) held

-- what one try makes of the pass (no public clause cites it)
abbrev pub HasTriedCancel : TableId → World → (timer line : ℕ) → (held after : HeldPass) → Tried
    → Type 0
HasTriedCancel table o timer line held after tries.Nowhere = IsNowhere o timer held after
HasTriedCancel table o timer line held after (tries.Cancelled cpu) =
    IsCancelled table o timer line held after cpu
HasTriedCancel table o timer line held after tries.Gone = IsGone o timer held after

-- a look into the part of a CPU, by whether the timer was taken out there (no public clause cites
-- it)
abbrev pub tried_of : (taken : Bool) → CpuId → Tried
tried_of true cpu = tries.Cancelled cpu
tried_of false cpu = tries.Gone

-- how the tries end: None where the timer isn't queued, or the CPU where it was
abbrev pub HasCancelEnded : TableId → World → (timer line : ℕ) → (held after : HeldPass)
    → Option CpuId → Type 0
HasCancelEnded table o timer line held after None = IsNowhere o timer held after
HasCancelEnded table o timer line held after (Some cpu) =
    IsCancelled table o timer line held after cpu

-- so many loads, each of a CPU where the timer wasn't (no public clause cites it)
pub record LooksOn (o : World) (timer : ℕ) (held after : HeldPass) : Type 0 where
  pub looks : List Look
  pub each : Each (WasGone o timer) looks
  pub pass_is : after ≡ with_pass (seen_all looks) held

-- FOUND: earlier loads of the timer's word each named a CPU, in whose part it wasn't queued by
-- then; after the last one the call ends
pub record CameTo (table : TableId) (o : World) (timer line : ℕ) (held after : HeldPass)
    (answer : Option CpuId) : Type 0 where
  pub looks : List Look
  pub each : Each (WasGone o timer) looks
  pub ends : HasCancelEnded table o timer line (with_pass (seen_all looks) held) after answer

-- WANT OF MEMORY: each load named a CPU, and the pass knows no more than these loads
pub record FellShort (o : World) (timer : ℕ) (held after : HeldPass) : Type 0 where
  pub looks : List Look
  pub each : Each (NamesHome o timer) looks
  pub pass_is : after ≡ with_pass (seen_all looks) held

-- the same as a refusal (no public clause cites it)
abbrev pub HasFallenShort : World → (timer : ℕ) → (held after : HeldPass) → OpFault → Type 0
HasFallenShort o timer held after fault =
    (fault ≡ faults.NoMemory) × FellShort o timer held after

-- OK: the pass knows that its CPU may cancel, and once it has met its CPU's part, the loads and the
-- cancelling are made
pub record HasCancelled (table : TableId) (o : World) (timer line : ℕ) (part : HeldPart)
    (held after : HeldPass) (answer : Option CpuId) : Type 0 where
  pub allowed : (p : PassView) → IsPassIn table held p → cancel_fault_by p ≡ None
  pub came : CameTo table o timer line (met part held) after answer

-- the pass after a refusal: it is as it was, but for loads before want of memory
abbrev pub HasStayed : World → (timer : ℕ) → (held after : HeldPass) → OpFault → Type 0
HasStayed o timer held after (faults.Queued cpu) = ⊥
HasStayed o timer held after faults.NoMemory = FellShort o timer held after
HasStayed o timer held after faults.NotActive = after ≡ held
HasStayed o timer held after faults.NotIdle = ⊥
HasStayed o timer held after faults.Offline = after ≡ held
HasStayed o timer held after faults.AlreadyOnline = ⊥
HasStayed o timer held after faults.LastOnline = ⊥
HasStayed o timer held after (faults.Spent made) = ⊥

-- REFUSED: exactly by what the pass knows of its CPU, or for want of memory
pub record NotCancelled (table : TableId) (o : World) (timer : ℕ) (part : HeldPart)
    (held after : HeldPass) (fault : OpFault) : Type 0 where
  pub refused : (p : PassView) → IsPassIn table held p → IsArmRefused (cancel_fault_by p) fault
  pub stayed : HasStayed o timer (met part held) after fault
