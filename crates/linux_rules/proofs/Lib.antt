mod LastMark
pub mod Verdicts
mod Answered
pub mod Places
pub mod Frames
pub mod Taking
pub mod Standing
