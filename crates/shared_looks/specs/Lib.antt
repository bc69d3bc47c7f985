pub mod Rooms
pub mod Looks
pub mod Sights
pub mod Marks
pub use Rattle.shared_cpus.specs as shared_cpus
