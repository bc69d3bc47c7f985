-- the shape of the operations of a moment, over any rules
use Rattle.std.specs.Prelude.{ℕ, zero, suc, ◌+◌, ◌-◌, length, slice_get, List, [], ◌∷◌, Bool, true}
use Rattle.std.specs.Prelude.{false, ◌&&◌, Option, Some, None, if◌then◌else◌, is_none, nat_le}
use Rattle.std.specs.Prelude.{option_map, unwrap_or}
use Rattle.std.specs.Option.{option_or}
use Rattle.tm_base.specs.declared.names.CpuId.{CpuId}
use Rattle.tm_base.specs.declared.names.TimerId.{TimerId}
use Rattle.tm_base.specs.declared.names.Class.{Class}
use Rattle.tm_base.specs.declared.faults.OpFault.{OpFault}
use Rattle.tm_base.specs.declared.faults.OpFault.TheVariants as faults
use Rattle.tm_base.specs.Faults.{fault_number}
use Rattle.tm_script.specs.declared.syntax.Op.{Op}
use Rattle.tm_script.specs.declared.syntax.What.{What}
use Rattle.tm_script.specs.declared.syntax.What.TheVariants as whats
use Rattle.tm_report.specs.declared.lines.Line.{Line}
use Rattle.tm_report.specs.declared.lines.Line.TheVariants as lines
use Rattle.play_rules.specs.declared.asks.Answerer.{Answerer}
use Rattle.play_rules.specs.declared.asks.Arming.{Arming}
use Rattle.play_rules.specs.declared.asks.Cancelling.{Cancelling}
use Rattle.play_rules.specs.declared.asks.Queued.{Queued}
use Rattle.play_rules.specs.Rules.{Moved, Placed, Rules}
use Rattle.play_rules.specs.Parts.{Played, silent, printing, lines_told, and_then}
use Rattle.play_rules.specs.Interrupts.{cpu_id}

-- the number that a report shows for a refusal
abbrev pub shown_number : OpFault → ℕ
shown_number fault = unwrap_or (fault_number fault) 0

-- the line of a refused operation
abbrev pub refused_line : OpFault → (now line : ℕ) → CpuId → Line
refused_line (faults.Queued holder) now line cpu =
    lines.RefusedQueued now cpu line (shown_number (faults.Queued holder)) holder
refused_line fault now line cpu = lines.Refused now cpu line (shown_number fault)

-- the CPU that the last operation of a moment takes offline
abbrev pub leaving : What → CpuId → Option ℕ
leaving whats.Offline cpu = Some cpu.0
leaving what cpu = None

-- the CPU that this operation takes offline, if there is one that does
abbrev pub leaving_by : Option Op → Option ℕ
leaving_by None = None
leaving_by (Some o) = leaving o.what o.cpu

-- the CPU that the last of these operations takes offline
abbrev pub leaver : List Op → Option ℕ
leaver os = leaving_by (slice_get os (length os - 1))

module _ {S : Type 0} (r : Rules S) where
  -- REFUSALS: the CPU is offline, or idle where it would have to be active
  abbrev pub not_active : S → (c : ℕ) → Option OpFault
  not_active s c =
      if r.is_online s c
      then if r.is_idle s c then Some faults.NotActive else None
      else Some faults.Offline

  -- REFUSALS: the CPU is offline, or active where it would have to be idle
  abbrev pub not_idle : S → (c : ℕ) → Option OpFault
  not_idle s c =
      if r.is_online s c
      then if r.is_idle s c then None else Some faults.NotIdle
      else Some faults.Offline

  -- REFUSALS: the timer is queued on a CPU
  abbrev pub held_by : Option Queued → Option OpFault
  held_by queued = option_map (λ held. faults.Queued held.cpu) queued

  -- no other placed CPU is online
  abbrev pub last_online : S → (c : ℕ) → Option OpFault
  last_online s c =
      if r.is_placed s c && is_none (r.successor s c) then Some faults.LastOnline else None

  -- the first refusal that applies to an operation
  abbrev pub refusal : What → (c : ℕ) → S → Option OpFault
  refusal (whats.Arm timer class delay job arg) c s =
      option_or (not_active s c) (held_by (r.queued s timer.0))
  refusal (whats.Cancel timer) c s = not_active s c
  refusal whats.Idle c s = not_active s c
  refusal whats.Wake c s = not_idle s c
  refusal whats.Offline c s = option_or (not_active s c) (last_online s c)
  refusal whats.Online c s = if r.is_online s c then Some faults.AlreadyOnline else None

  -- ARM: a timer that is queued nowhere
  abbrev pub arm_printed : S → CpuId → TimerId → Class → Placed S → Played S
  arm_printed s cpu timer class placed =
      printing (lines.Arm (r.clock s) cpu timer class placed.wheel) placed.state

  -- ARM: a timer that is queued nowhere is queued on the CPU (add_timer)
  abbrev pub arm : CpuId → Arming → S → Played S
  arm cpu arming s = arm_printed s cpu arming.timer arming.class (r.armed s cpu.0 arming)

  -- CANCEL: wherever the timer is queued
  abbrev pub cancel_where : Option Queued → Cancelling → S → Played S
  cancel_where None c s = printing (lines.NotQueued (r.clock s) c.by c.timer) s
  cancel_where (Some held) c s =
      printing (lines.Cancel (r.clock s) c.by c.timer held.cpu) (r.cancelled s held.cpu.0 c)

  -- CANCEL: wherever the timer is queued, it goes out (timer_delete)
  abbrev pub cancel : Cancelling → S → Played S
  cancel c s = cancel_where (r.queued s c.timer.0) c s

  -- IDLE: a CPU whose first event is at most one jiffy ahead stays active
  abbrev pub idle_where : (stays : Bool) → CpuId → S → Played S
  idle_where true cpu s = printing (lines.Stay (r.clock s) cpu (r.first_event s cpu.0)) s
  idle_where false cpu s =
      printing (lines.Idle (r.clock s) cpu (r.wakeup (r.idled s cpu.0) cpu.0)) (r.idled s cpu.0)

  -- IDLE: a CPU whose first event is at most one jiffy ahead stays active
  -- (timer_base_try_to_set_idle)
  abbrev pub idle : CpuId → S → Played S
  idle cpu s = idle_where (nat_le (r.first_event s cpu.0) (r.clock s + 1)) cpu s

  -- the duty is handed on to this CPU, where there is one
  abbrev pub hand_on_to : Option ℕ → CpuId → S → Played S
  hand_on_to None cpu s = silent s
  hand_on_to (Some d) cpu s =
      printing (lines.Handed (r.clock s) cpu (cpu_id d)) (r.handed_on s cpu.0 d)

  -- the CPU hands on its duty to its successor, or has none
  abbrev pub hand_on_where : Bool → CpuId → S → Played S
  hand_on_where false cpu s = silent s
  hand_on_where true cpu s = hand_on_to (r.successor s cpu.0) cpu s

  -- OFFLINE: where the CPU has to hand on its duty, it hands it on to the lowest other online
  -- placed CPU (tmigr_trigger_active)
  abbrev pub hand_on : CpuId → S → Played S
  hand_on cpu s = hand_on_where (r.hands_on s cpu.0) cpu s

  -- OFFLINE: the CPU leaves, and hands on its duty where it has one (tmigr_cpu_offline)
  abbrev pub offline : CpuId → S → Played S
  offline cpu s =
      and_then (printing (lines.Offline (r.clock s) cpu) (r.gone_offline s cpu.0)) (hand_on cpu)

  -- WAKE: an idle CPU is active again (timer_clear_idle)
  abbrev pub wake : CpuId → S → Played S
  wake cpu s = printing (lines.Wake (r.clock s) cpu) (r.woken s cpu.0)

  -- ONLINE: the CPU comes up active (tmigr_cpu_online)
  abbrev pub online : CpuId → S → Played S
  online cpu s = printing (lines.Online (r.clock s) cpu) (r.come_online s cpu.0)

  -- an operation that isn't refused
  abbrev pub done : What → (line : ℕ) → CpuId → S → Played S
  done (whats.Arm timer class delay job arg) line cpu s =
      arm cpu
      (record {
        timer = timer;
        class = class;
        delay = delay;
        job = job;
        arg = arg;
        line = line;
      }) s
  done (whats.Cancel timer) line cpu s = cancel (record { timer = timer; by = cpu; line = line }) s
  done whats.Idle line cpu s = idle cpu s
  done whats.Wake line cpu s = wake cpu s
  done whats.Offline line cpu s = offline cpu s
  done whats.Online line cpu s = online cpu s

  -- an operation is done, unless it is refused: then its line is told
  abbrev pub done_unless : Option OpFault → Op → S → Played S
  done_unless None o s = done o.what o.line o.cpu s
  done_unless (Some fault) o s = printing (refused_line fault (r.clock s) o.line o.cpu) s

  -- one operation of the script: refused, or done
  abbrev pub operation : Op → S → Played S
  operation o s = done_unless (refusal o.what o.cpu.0 s) o s

  -- operations, in the order of their lines
  unfoldable pub operations : List Op → S → Played S
  operations [] s = silent s
  operations (o ∷ os) s = and_then (operation o s) (operations os)

  -- MOVING: at most n timers of a CPU, first to last
  abbrev pub move_printed : (from to : ℕ) → Option (Moved S) → (S → Played S) → S → Played S
  move_printed from to None rest s = silent s
  move_printed from to (Some m) rest s =
      and_then
      (printing
      (lines.Moved (r.clock s) m.mover.timer (cpu_id from) (cpu_id to) m.mover.wheel) m.state)
      rest

  -- MOVING: at most n timers of a CPU, first to last
  unfoldable pub moves : (n from to : ℕ) → S → Played S
  moves zero from to s = silent s
  moves (suc n) from to s = move_printed from to (r.moved s from to) (moves n from to) s

  -- MOVING: all timers of a CPU, first to last (timers_dead_cpu)
  abbrev pub move_all : (from to : ℕ) → S → Played S
  move_all from to s = moves (r.count_queued s from) from to s

  -- the controlling CPU gets them all
  abbrev pub moves_to : Option ℕ → (from : ℕ) → S → Played S
  moves_to None from s = silent s
  moves_to (Some d) from s =
      and_then
      (printing (lines.Control (r.clock s) (cpu_id d)) (r.controlling s d)) (move_all from d)

  -- where nothing is queued on the CPU nothing happens
  abbrev pub clear_where : (queued : ℕ) → (from : ℕ) → S → Played S
  clear_where zero from s = silent s
  clear_where (suc n) from s = moves_to (r.controller s) from s

  -- the timers of a CPU that is offline move to the controlling CPU
  abbrev pub clear : (from : ℕ) → S → Played S
  clear from s = if r.is_online s from then silent s else clear_where (r.count_queued s from) from s

  -- the timers of the CPU that went offline in this moment move, where one did
  abbrev pub clear_after : Option ℕ → S → Played S
  clear_after None s = silent s
  clear_after (Some c) s = clear c s

  -- COVER lines, of n CPUs from CPU c on
  abbrev pub cover_or : Option Answerer → (c : ℕ) → S → List Line → List Line
  cover_or None c s others = others
  cover_or (Some a) c s others = lines.Cover (r.clock s) (cpu_id c) a.wheel a.cover ∷ others

  -- the lines that tell who answers for the first global timer of an idle CPU, of n CPUs from CPU c
  -- on
  unfoldable pub cover_lines : (n c : ℕ) → S → List Line
  cover_lines zero c s = []
  cover_lines (suc n) c s = cover_or (r.cover s c) c s (cover_lines n (c + 1) s)

  -- the `cover` lines of a moment
  abbrev pub covers : S → Played S
  covers s = lines_told (cover_lines (r.cpus s) 0 s) s
