pub mod Conditions
pub mod Outcomes
pub mod PartLeaves
