pub mod Pages
pub mod Lists
pub mod Texts
