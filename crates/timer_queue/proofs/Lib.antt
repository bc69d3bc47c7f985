pub mod Times
pub mod Slots
pub mod Keeps
pub mod Left
pub mod Turns
pub mod Calls
mod Dues
