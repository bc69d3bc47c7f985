mod FieldLists
mod FieldWords
pub mod FieldLaws
pub mod LineLaws
mod BodyLaws
pub mod HeadLaws
pub mod TraceLaws
