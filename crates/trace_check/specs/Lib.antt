pub mod Reasons
pub mod Answers
pub mod Told
pub mod Leading
pub mod Playing
