pub mod Rules
pub mod Stepping
pub mod Forgets
