pub mod Gaining
mod Again
mod Running
mod JobLoop
mod Stopped
mod Begun
mod Counted
mod Carried
mod Levels
mod Closing
mod Rounds
mod Worked
mod Interrupted
pub mod Drains
