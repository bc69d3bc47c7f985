pub mod Asleep
pub mod Nobody
pub mod Tests
