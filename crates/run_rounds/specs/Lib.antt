pub mod UnderWay
pub use Rattle.run_shares.specs.Doing as Doing
