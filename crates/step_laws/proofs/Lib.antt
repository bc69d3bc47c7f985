pub mod Lists
pub mod Reaching
pub mod Settling
pub mod Sizes
