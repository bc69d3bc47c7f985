pub mod Alike
pub mod Alone
pub mod Live
pub mod Seen
pub mod StepRules
pub mod Lone
pub mod Runs
