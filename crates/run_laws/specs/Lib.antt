pub mod Work
pub use Rattle.wheel_core.specs as wheel_core
