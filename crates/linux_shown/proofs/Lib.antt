mod Digits
mod Lines
mod Joined
