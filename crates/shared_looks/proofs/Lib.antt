pub mod Looks
mod Sighted
mod Marked
