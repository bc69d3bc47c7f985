mod NumberLaws
mod LineLaws
mod BodyLaws
mod DraftLaws
mod ScriptLaws
