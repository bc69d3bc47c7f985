pub mod Verdicts
pub mod Beginnings
