mod Halves
mod Looks
pub use Rattle.shared_table.proofs as shared_table
