-- the invariant as core_laws has it, for crates above
pub use Rattle.core_laws.specs.Laws.{StepsStayLawful}
pub use Rattle.core_laws.specs.Walks.Fit.{WalksFit}
