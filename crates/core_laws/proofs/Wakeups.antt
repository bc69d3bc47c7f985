pub mod Leaves
pub mod Later
pub mod Owed
pub mod Walking
pub mod Keeps
