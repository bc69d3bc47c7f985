-- what a CPU is besides its timers, for crates above
pub use Rattle.core_parts.specs.declared.status.CpuStatus.{CpuStatus}
pub use Rattle.core_parts.specs.Status.{record_of, handing_walk, finished_status}
