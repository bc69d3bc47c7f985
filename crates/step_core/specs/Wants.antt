-- which steps may want memory, as core_steps has them
pub use Rattle.core_steps.specs.Wants.{WantsMemory}
