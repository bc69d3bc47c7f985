pub mod Work
pub mod Course
