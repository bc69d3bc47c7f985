-- what became of a timer whose job was run, as shared_acts has it, for crates above
pub use Rattle.shared_acts.specs.declared.runs.RanReply.TheVariants.{Done, Mark, Again, Skip}
