pub mod Standing
pub mod Fitting
pub mod Retrying
mod Boxed
