pub mod ByClass
pub mod Journals
pub mod CpuBases
pub mod Trio
pub mod Replay
pub mod Laws
pub use Rattle.wheel_core.specs as wheel_core
