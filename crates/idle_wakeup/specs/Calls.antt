-- what the calls of a CPU's thread refuse, and what they make of its pass
use Rattle.std.specs.Prelude.{◌≡◌, ℕ, suc, Bool, false, not, nat_le, List, [], Option, Some, None}
use Rattle.std.specs.Prelude.{if◌then◌else◌}
use Rattle.tm_base.specs.declared.names.TheConstants.{NEVER}
use Rattle.tm_base.specs.declared.faults.OpFault.{OpFault}
use Rattle.tm_base.specs.declared.faults.OpFault.TheVariants as faults
use Rattle.cpu_bases.specs.declared.entry.Entry.{Entry}
use Rattle.core_world.specs.World.{cpu_of}
use Rattle.walk_active.specs.shared_rule.declared.parts.PassView.{PassView}
use Rattle.walk_active.specs.shared_rule.Shows.{BeginsWith}
use Rattle.walk_active.specs.shared_rule.Passes.{HeldPass, Seated, knowing, with_pass}
use Rattle.walk_active.specs.shared_table.declared.ready.TheConstants.{MOST_MADE}

-- too many walks were begun with a pass
abbrev pub spent : (walks : ℕ) → Option OpFault
spent walks = if nat_le MOST_MADE walks then Some (faults.Spent walks) else None

-- WAKE: why a CPU can't wake: it is offline, or awake, or too many walks were begun with its pass
abbrev pub wake_fault_of : (online idle : Bool) → (walks : ℕ) → Option OpFault
wake_fault_of online idle walks =
    if not online then Some faults.Offline
    else (if not idle then Some faults.NotIdle else spent walks)

-- GO IDLE: why a CPU can't go idle: it is offline, or idle, or too many walks were begun with its
-- pass
abbrev pub idle_fault_of : (online idle : Bool) → (walks : ℕ) → Option OpFault
idle_fault_of online idle walks =
    if not online then Some faults.Offline
    else (if idle then Some faults.NotActive else spent walks)

-- REFUSALS: the same by the pass alone, since no CPU goes offline or online in a run; a pass that
-- is away from its seat is refused by nothing
abbrev pub refusal : ((online idle : Bool) → (walks : ℕ) → Option OpFault) → Option Seated
    → Option OpFault
refusal f None = None
refusal f (Some s) = f (cpu_of s.pass.opening s.pass.cpu).online s.pass.idle s.pass.walks

-- the journal of its CPU as a pass knows it
abbrev pub known_journal : Option Seated → List Entry
known_journal None = []
known_journal (Some s) = s.pass.journal

-- RENEWED: the pass has changed so, and knows the journal of its CPU as it is by now, which begins
-- with what it knew before
abbrev pub Renews : (PassView → PassView) → (old new : HeldPass) → Type 0
Renews f old new =
    (journal : List Entry) × BeginsWith journal (known_journal old.seated)
    × (new ≡ with_pass (λ p. knowing journal (f p)) old)

-- a pass whose CPU has woken: one walk more was begun with it
abbrev pub awake : PassView → PassView
awake p = record p { walks = suc p.walks; idle = false; wakeup = NEVER; reeval = false }
