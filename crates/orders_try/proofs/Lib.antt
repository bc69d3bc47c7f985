mod FitLaws
mod Gathers
mod Joins
mod MakeLaws
mod TryLaws
