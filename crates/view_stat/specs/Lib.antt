pub mod Watched
pub mod Stats
pub mod Laws
pub mod Alone
pub mod Telling
pub mod Comparing
