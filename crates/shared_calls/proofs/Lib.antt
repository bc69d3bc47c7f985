pub mod Free
pub mod Allowed
mod Asking
mod Taking
mod Trying
