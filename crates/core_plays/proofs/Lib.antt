pub mod BySteps
mod DeepSeen
mod DeepTold
mod Due
mod NextMoments
mod NoDevice
pub mod Playable
