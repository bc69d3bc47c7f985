pub mod Gathering
pub mod Seeing
