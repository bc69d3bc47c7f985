pub mod Cover
pub mod Worked
pub mod ExchangesOnce
pub mod ExchangesRead
pub mod HandingRead
pub mod HoldersRead
pub mod Leaves
pub mod LevelsRead
pub mod MarkedRead
pub mod PlacesRead
pub mod PlayedRead
pub mod RangesRead
pub mod ReachRead
pub mod Reaches
pub mod Scenes
pub mod ToldRead
pub mod WalkersRead
pub use Rattle.core_laws.proofs as core_laws
