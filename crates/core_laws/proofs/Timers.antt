pub mod Items
pub mod Bases
pub mod Fits
pub mod Calls
pub mod Keeps
