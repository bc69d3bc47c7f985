-- what a CPU is besides its timers, and its record with another one of it
use Rattle.std.specs.Prelude.{ℕ, ◌==◌, Option, Some, None, false, if◌then◌else◌, min, slice_set}
use Rattle.tm_base.specs.declared.names.TheConstants.{NEVER}
use Rattle.core_world.specs.cpu_bases.CpuBases.{CpuBases}
use Rattle.core_world.specs.walk_rules.declared.walk.Walk.{Walk}
use Rattle.core_world.specs.walk_rules.declared.walk.WalkKind.{WalkKind}
use Rattle.core_world.specs.walk_rules.declared.walk.WalkKind.TheVariants as kinds
use Rattle.core_world.specs.walk_rules.declared.walk.Stage.TheVariants as stages
use Rattle.core_world.specs.walk_rules.Stages.{at_stage}
use Rattle.core_world.specs.World.{CpuRecord, World, cpu_of}
pub use Rattle.core_parts.specs.declared.status.CpuStatus.{CpuStatus}

-- what a CPU is besides its timers
abbrev pub status_of : CpuRecord → CpuStatus
status_of y = record {
  online = y.online;
  idle = y.idle;
  inside = y.inside;
  mark = y.mark;
  wakeup = y.wakeup;
  walk = y.walk;
}

-- a CPU of this status with these timers
abbrev pub record_of : CpuStatus → CpuBases → CpuRecord
record_of status bases = record {
  online = status.online;
  idle = status.idle;
  inside = status.inside;
  mark = status.mark;
  wakeup = status.wakeup;
  bases = bases;
  walk = status.walk;
}

-- a CPU with another status, and its timers as they are
abbrev pub with_status : CpuRecord → CpuStatus → CpuRecord
with_status y status = record_of status y.bases

-- the world where CPU c is this besides its timers
abbrev pub with_cpu_status : World → (c : ℕ) → CpuStatus → World
with_cpu_status w c status = record w {
  cpus = slice_set w.cpus c (with_status (cpu_of w c) status);
}

-- what a walk leaves in its CPU as it ends (no public clause cites it)
abbrev pub handing_walk : Walk → Option Walk
handing_walk k = if k.first == NEVER then None else Some (at_stage k stages.Handing)

-- what a walk leaves of its CPU's status as it ends (no public clause cites it)
abbrev pub finished_status : CpuStatus → Walk → WalkKind → CpuStatus
finished_status status k kinds.Activate = record status { walk = None }
finished_status status k kinds.Deactivate =
    record status { wakeup = min k.pin k.first; walk = None }
finished_status status k kinds.Offline = record status { walk = handing_walk k }
finished_status status k kinds.Reeval =
    record status { wakeup = min k.pin k.first; inside = false; walk = None }
finished_status status k (kinds.Remote by) = record status { mark = None; walk = None }
