pub mod Lines
pub mod Texts
pub mod Reading
pub mod Faults
pub mod Reader
pub mod Steps
