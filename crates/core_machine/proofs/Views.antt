pub mod Seen
pub mod Searches
pub mod Where
pub mod Due
pub mod Looking
pub mod Controlling
