-- what a CPU shows of itself
use Rattle.std.specs.Prelude.{ℕ, option_map}
use Rattle.tm_base.specs.declared.names.CpuId.{CpuId}
use Rattle.cpu_word.specs.declared.state.CpuState.{CpuState}
use Rattle.core_parts.specs.core_world.World.{CpuRecord}

-- a number as the id of a CPU
abbrev pub as_cpu : ℕ → CpuId
as_cpu c = record { 0 = c }

-- what a core shows of a CPU (struct tmigr_cpu)
abbrev pub shown_cpu : CpuRecord → CpuState
shown_cpu y = record {
  online = y.online;
  idle = y.idle;
  inside = y.inside;
  remote = option_map as_cpu y.mark;
  wakeup = y.wakeup;
}
