pub mod Driven
pub mod Standing
