-- what arming on the shared words refuses, and what it makes of the pass
use Rattle.std.specs.Prelude.{◌≡◌, ℕ, ◌<◌, ◌≤◌, Bool, ◌&&◌, not, Option, Some, None}
use Rattle.std.specs.Prelude.{if◌then◌else◌}
use Rattle.atomic_table.specs.Seated.{TableId}
use Rattle.tm_base.specs.declared.faults.OpFault.{OpFault}
use Rattle.tm_base.specs.declared.faults.OpFault.TheVariants as faults
use Rattle.tm_base.specs.declared.names.Class.{Class}
use Rattle.tm_base.specs.declared.names.TheConstants.{TIME_LIMIT}
use Rattle.tm_base.specs.declared.names.TimerId.{TimerId}
use Rattle.cpu_bases.specs.CpuBases.{item_queued}
use Rattle.core_world.specs.World.{World, cpu_of}
use Rattle.shared_table.specs.shared_rule.declared.parts.PassView.{PassView}
use Rattle.shared_table.specs.shared_rule.Plays.{Agree, PartFits}
use Rattle.shared_table.specs.shared_rule.TimerLaws.{MayExchangeArm}
use Rattle.shared_table.specs.shared_rule.Parts.{HeldPart, pass_parted, with_guest}
use Rattle.shared_table.specs.shared_rule.Passes.{HeldPass, IsPassIn, knowing, with_pass}
use Rattle.shared_table.specs.shared_rule.Passes.{with_receipts_room}
use Rattle.shared_timers.specs.declared.arming.Arming.{Arming}
use Rattle.shared_timers.specs.Queueing.{FoundQueued, armed_part}
use Rattle.shared_looks.specs.Rooms.{with_more_room}

-- ARM: why a CPU can't: it is offline, or idle and outside its interrupt
abbrev pub arm_fault_of : (online idle inside : Bool) → Option OpFault
arm_fault_of online idle inside =
    if not online then Some faults.Offline
    else (if idle && not inside then Some faults.NotActive else None)

-- the same by what its pass knows, since no CPU goes offline or online in a run
abbrev pub arm_fault_by : PassView → Option OpFault
arm_fault_by p = arm_fault_of (cpu_of p.opening p.cpu).online p.idle p.inside

-- a refusal that comes by the CPU comes exactly so; the others come where it refuses nothing
abbrev pub IsArmRefused : (expected : Option OpFault) → OpFault → Type 0
IsArmRefused expected (faults.Queued cpu) = expected ≡ None
IsArmRefused expected faults.NoMemory = expected ≡ None
IsArmRefused expected faults.NotActive = expected ≡ Some faults.NotActive
IsArmRefused expected faults.NotIdle = expected ≡ Some faults.NotIdle
IsArmRefused expected faults.Offline = expected ≡ Some faults.Offline
IsArmRefused expected faults.AlreadyOnline = expected ≡ Some faults.AlreadyOnline
IsArmRefused expected faults.LastOnline = expected ≡ Some faults.LastOnline
IsArmRefused expected (faults.Spent made) = expected ≡ Some (faults.Spent made)

-- THE PART of a pass's CPU, as the call finds it: it fits, and agrees with the pass
pub record MetBy (table : TableId) (part : HeldPart) (held : HeldPass) : Type 0 where
  pub own : part.box.cpu ≡ held.cpu
  pub fits : PartFits part.box
  pub agree : (p : PassView) → IsPassIn table held p → Agree part.box p

-- the pass then knows the CPU's journal as it is by now
abbrev pub met : HeldPart → HeldPass → HeldPass
met part held = with_pass (knowing part.box.own.bases.journal) held

-- a part with memory for one timer more in each base, and for one entry
abbrev pub with_entry_room : HeldPart → HeldPart
with_entry_room part = with_more_room 1 1 part

-- the pass in the part, with room in both for a timer, its entry and its receipt
abbrev pub roomy : HeldPart → HeldPass → HeldPart
roomy part held = with_guest (with_entry_room part) (with_receipts_room 1 held)

-- ARMED in the part: the answer is the wheel expiry, and the pass has the receipt
pub record IsArmed (table : TableId) (now : ℕ) (a : Arming) (part : HeldPart)
    (held after : HeldPass) (wheel : ℕ) : Type 0 where
  pub wheel_is :
      wheel ≡ (item_queued now a.class a.timer.0 a.expires a.job a.arg part.box.own.bases).wheel
  pub pass_is : after ≡ pass_parted table held.cpu (armed_part a (roomy part held))

-- found queued: the timer's word named that CPU, and the pass remembers it
pub record IsQueued (table : TableId) (o : World) (timer : ℕ) (part : HeldPart)
    (held after : HeldPass) (fault : OpFault) : Type 0 where
  pub mid : HeldPart
  pub found : FoundQueued o timer (roomy part held) mid fault
  pub pass_is : after ≡ pass_parted table held.cpu mid

-- room came short, or the timer is queued
abbrev pub HasFailed : TableId → World → (timer : ℕ) → HeldPart → (held after : HeldPass) → OpFault
    → Type 0
HasFailed table o timer part held after (faults.Queued cpu) =
    IsQueued table o timer part held after (faults.Queued cpu)
HasFailed table o timer part held after faults.NoMemory = after ≡ held
HasFailed table o timer part held after faults.NotActive = ⊥
HasFailed table o timer part held after faults.NotIdle = ⊥
HasFailed table o timer part held after faults.Offline = ⊥
HasFailed table o timer part held after faults.AlreadyOnline = ⊥
HasFailed table o timer part held after faults.LastOnline = ⊥
HasFailed table o timer part held after (faults.Spent made) = ⊥

-- the pass after a refusal: it is as it was, but where it found the timer queued
abbrev pub HasRefusedArm : TableId → World → (timer : ℕ) → HeldPart → (held after : HeldPass)
    → OpFault
    → Type 0
HasRefusedArm table o timer part held after (faults.Queued cpu) =
    IsQueued table o timer part held after (faults.Queued cpu)
HasRefusedArm table o timer part held after faults.NoMemory = after ≡ held
HasRefusedArm table o timer part held after faults.NotActive = after ≡ held
HasRefusedArm table o timer part held after faults.NotIdle = ⊥
HasRefusedArm table o timer part held after faults.Offline = after ≡ held
HasRefusedArm table o timer part held after faults.AlreadyOnline = ⊥
HasRefusedArm table o timer part held after faults.LastOnline = ⊥
HasRefusedArm table o timer part held after (faults.Spent made) = ⊥

-- OK: the pass knows that its CPU may arm, and once it has met its CPU's part, the timer is armed
-- there
pub record HasArmed (table : TableId) (now : ℕ) (a : Arming) (part : HeldPart)
    (held after : HeldPass) (wheel : ℕ) : Type 0 where
  pub allowed : (p : PassView) → IsPassIn table held p → arm_fault_by p ≡ None
  pub armed : IsArmed table now a part (met part held) after wheel

-- REFUSED: exactly by what the pass knows of its CPU, or by the timer's word, or for want of memory
pub record NotArmed (table : TableId) (o : World) (timer : ℕ) (part : HeldPart)
    (held after : HeldPass) (fault : OpFault) : Type 0 where
  pub refused : (p : PassView) → IsPassIn table held p → IsArmRefused (arm_fault_by p) fault
  pub left : HasRefusedArm table o timer part (met part held) after fault

-- a timer of the run that may be armed: its expiry isn't past, and is in range
pub record IsArmable (o : World) (a : Arming) : Type 0 where
  pub known : a.timer.0 < o.timers
  pub to_come : o.clock ≤ a.expires
  pub in_time : a.expires < TIME_LIMIT

-- what has to be known of a part, and of a pass of its CPU, that arms there
pub record MayArmInPart (table : TableId) (o : World) (part : HeldPart) (held : HeldPass)
    (a : Arming) : Type 0 where
  pub pass : PassView
  pub seated : IsPassIn table held pass
  pub may : MayExchangeArm o part.box a.class a.timer a.expires pass

-- a timer as it is to be armed
abbrev pub timer_arming_of : TimerId → Class → (expires job arg line : ℕ) → Arming
timer_arming_of timer class expires job arg line = record {
  timer = timer;
  class = class;
  expires = expires;
  job = job;
  arg = arg;
  line = line;
}
