-- a lemma of core_laws on leaves, for crates above
pub use Rattle.core_laws.proofs.Walks.Stands.{leaf_or}
