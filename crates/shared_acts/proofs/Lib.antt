pub mod Follow
pub mod Gaining
mod Handing
mod Parting
pub mod OwnDrains
pub mod Trials
pub mod Served
pub mod Taking
pub mod Closing
