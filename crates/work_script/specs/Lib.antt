pub mod Texts
pub mod Grammar
pub mod Reading
pub mod Faults
pub mod Reader
pub mod Steps
