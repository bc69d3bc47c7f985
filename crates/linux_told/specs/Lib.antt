pub mod Told
pub mod Agrees
