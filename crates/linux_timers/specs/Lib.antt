pub mod Bases
pub mod Seen
pub mod Wheel
pub mod Rule
pub mod Tallies
