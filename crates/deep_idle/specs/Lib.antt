pub mod Device
pub mod Order
