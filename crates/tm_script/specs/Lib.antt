pub mod Texts
pub mod Grammar
pub mod Judge
pub mod Faults
pub mod Reader
pub mod Facts
pub mod Reading
