pub mod WheelRuns
pub mod BasesRuns
