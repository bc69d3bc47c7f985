pub mod Alike
pub mod AlikeInterrupts
pub mod AlikeOperations
pub mod AlikeTurns
pub mod Shape
pub mod ShapeInterrupts
pub mod ShapeOperations
pub mod ShapeTurns
