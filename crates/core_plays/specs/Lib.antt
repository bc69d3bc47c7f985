pub mod Deep
pub mod Following
pub mod OnCore
pub mod Plays
pub mod Sleepers
