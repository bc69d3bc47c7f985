mod Unheard
mod Unknown
pub mod Onlines
pub mod Parts
pub mod Scripts
pub mod Turns
