pub mod Sames
pub mod Enabling
pub mod Turns
pub mod ArmCancel
pub mod WholeDrains
pub mod FirstMoves
