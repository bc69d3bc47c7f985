pub mod WheelCalls
pub mod BasesCalls
