pub mod Settling
pub mod Activating
pub mod Leaving
pub mod Moving
pub mod Heirs
pub mod Bases
pub mod Runs
pub mod Over
