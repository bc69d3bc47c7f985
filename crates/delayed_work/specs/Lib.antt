pub mod Ledger
pub mod Kept
pub mod Works
pub mod Calls
pub mod Laws
pub mod Lines
pub mod Play
pub mod Playable
