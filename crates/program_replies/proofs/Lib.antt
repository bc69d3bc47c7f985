pub mod Replying
mod Known
pub mod Apart
mod OneText
pub mod Endings
pub mod Exactly
mod CheckTexts
