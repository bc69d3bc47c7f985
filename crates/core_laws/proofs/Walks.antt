pub mod Fits
pub mod Keeps
pub mod Stands
