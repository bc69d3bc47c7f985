pub mod Gathering
pub mod Leading
pub mod Making
pub mod Starting
pub mod Trying
