pub mod Drawing
pub mod GeneratedLaws
