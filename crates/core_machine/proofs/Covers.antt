pub mod Lowest
pub mod Leading
pub mod Settled
pub mod Shown
