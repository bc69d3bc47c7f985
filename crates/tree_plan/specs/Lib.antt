pub mod Shape
pub mod Codes
pub mod Paths
pub mod Laws
pub mod Store
