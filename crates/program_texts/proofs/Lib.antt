mod TreeText
pub mod Forms
pub mod Told
pub mod Written
pub mod Refusals
