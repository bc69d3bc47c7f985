pub mod Leaves
pub mod Insides
pub mod Rests
pub mod InTime
pub mod Fitting
