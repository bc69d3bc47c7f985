pub mod Tests
pub mod Trees
