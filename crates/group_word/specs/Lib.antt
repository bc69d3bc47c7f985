pub mod Group
pub mod State
