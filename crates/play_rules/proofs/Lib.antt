pub mod Plays
pub mod Loops
pub mod FirstMoves
