pub mod WheelExpiry
pub mod PlainBase
pub mod ListBase
pub mod Scan
